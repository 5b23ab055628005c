-- What is so of merged rows.
use Rattle.std.specs.Prelude.{List}
use Rattle.std.specs.List.{flat_map}
use Rattle.std.specs.Cmp.{IsTotalOrder}
use Rattle.std.specs.declared.cmp.Ordering.{Ordering}
use Rattle.flow_types.specs.SameBags.{SameBag}
use Rattle.run_merge.specs.Merging.{Ascends, Row, Rows, merged}

-- They ascend where the order is total, and are the same bag as the rows of all lists.
pub record MergedIsAllInOrder : Type 0 where
  pub ascends : (cmp : Row → Row → Ordering) → IsTotalOrder cmp → (lists : List Rows) → Ascends cmp (merged cmp lists)
  pub same : (cmp : Row → Row → Ordering) (lists : List Rows) → SameBag (flat_map (λ rows. rows) lists) (merged cmp lists)
