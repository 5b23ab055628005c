-- The table by which a schema knows where its fields begin.
use Rattle.std.specs.Prelude.{◌≡◌, ℕ, ◌+◌, ◌<◌, ◌≤◌, IsTrue, List, length, take, slice_index}
use Rattle.flow_types.specs.Limits.{field_limit}
use Rattle.flow_types.specs.Types.{Fields, is_placed, widest}

-- no text stands among the first `count` fields, the next one is a text or there is none, and the table says of each of
-- these, and of the next one, where it begins
pub record IsTable (fields : Fields) (starts : List ℕ) (count : ℕ) : Type 0 where
  pub among : count ≤ length fields
  pub placed : IsTrue (is_placed fields count)
  pub until : count < length fields → ¬ IsTrue (is_placed fields (count + 1))
  pub begins : (k : ℕ) → k ≤ count → k < field_limit → slice_index starts k ≡ widest (take k fields)
