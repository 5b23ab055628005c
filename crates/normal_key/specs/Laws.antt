use Rattle.std.specs.Prelude.{◌≡◌, ◌↔◌, ℕ, Bool, true, List, IsTrue}
use Rattle.std.specs.Cmp.{IsTotalOrder}
use Rattle.std.specs.Cmp.Lexicographic.{slice_cmp}
use Rattle.std.specs.Ordering.{nat_cmp}
use Rattle.std.specs.declared.cmp.Ordering.{Ordering}
use Rattle.std.specs.declared.cmp.Ordering.TheVariants.{Less}
use Rattle.flow_types.specs.declared.order_item.OrderItem.{OrderItem}
use Rattle.flow_types.specs.Types.{Fields}
use Rattle.flow_types.specs.Tuples.{rank_cmp}
use Rattle.flow_types.specs.Records.{tuple_of, IsRecord}
use Rattle.normal_key.specs.Fits.{is_record}
use Rattle.normal_key.specs.Comparisons.{steps, key_cmp}
use Rattle.normal_key.specs.NormalForms.{key_prefix}

-- the order of bytes by the tuples that they are read as
abbrev pub bytes_cmp : Fields → List ℕ → List OrderItem → Bool → List ℕ → List ℕ → Ordering
bytes_cmp fields key items whole a b = key_cmp key items whole (tuple_of fields a) (tuple_of fields b)

-- the prefix of the tuple that bytes are read as
abbrev pub bytes_prefix : Fields → List ℕ → List OrderItem → Bool → List ℕ → List ℕ
bytes_prefix fields key items whole bytes = key_prefix key items whole (tuple_of fields bytes)

-- The order by a key is total, up to what is equal to it, and of two records the one whose prefix is smaller,
-- byte by byte, stands first.
pub record IsPrefixed (fields : Fields) (key : List ℕ) (items : List OrderItem) (whole : Bool) : Type 0 where
  pub total : IsTotalOrder (bytes_cmp fields key items whole)
  pub smaller : (a b : List ℕ) → IsTrue (is_record fields a) → IsTrue (is_record fields b)
      → slice_cmp nat_cmp (bytes_prefix fields key items whole a) (bytes_prefix fields key items whole b) ≡ Less
      → bytes_cmp fields key items whole a b ≡ Less

-- The test of a record is true exactly of the record of a tuple of the fields.
abbrev pub TellsRecords : Type 0
TellsRecords = (fields : Fields) (bytes : List ℕ) → IsTrue (is_record fields bytes) ↔ IsRecord fields bytes

-- With the whole tuple the order is the rank by what is compared, in which only equal tuples tie.
abbrev pub IsRankOfSteps : Type 0
IsRankOfSteps = (key : List ℕ) (items : List OrderItem) → key_cmp key items true ≡ rank_cmp (steps key items)
