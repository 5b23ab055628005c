-- A join with the rows of an index is the join with the rows that it was made of.
use Rattle.std.proofs.Common.{◌≡◌, ℕ, List, ◌++◌, map, filter, ap}
use Rattle.std.specs.List.{flat_map}
use Rattle.flow_types.specs.declared.expr.Expr.{Expr}
use Rattle.flow_types.specs.Tuples.{Tuple, key_of}
use Rattle.flow_model.specs.Env.{Tuples}
use Rattle.flow_model.specs.Rows.{columns_of, is_nothing, inner_rows, left_alone, right_alone}
use Rattle.plain_ops.specs.Indexes.{Index, IsIndexOf}

module _ (own other : List ℕ) (columns : List Expr) (rows others : Tuples) (index : Index) (is : IsIndexOf other others index) where
  pub inner_indexed : inner_rows own index.key columns rows index.rows ≡ inner_rows own other columns rows others
  inner_indexed = ap (λ (find : Tuple → Tuples). flat_map (λ t. map (λ u. columns_of columns (t ++ u)) (find (key_of own t))) rows) (λ i k. is k i)

  module _ (default : Tuple) where
    pub left_indexed : left_alone own index.key columns default rows index.rows ≡ left_alone own other columns default rows others
    left_indexed = ap (λ (find : Tuple → Tuples). map (λ t. columns_of columns (t ++ default)) (filter (λ t. is_nothing (find (key_of own t))) rows)) (λ i k. is k i)

    pub right_indexed : right_alone index.key own columns default index.rows rows ≡ right_alone other own columns default others rows
    right_indexed = ap (λ (find : Tuple → Tuples). map (λ t. columns_of columns (default ++ t)) (filter (λ t. is_nothing (find (key_of own t))) rows)) (λ i k. is k i)
