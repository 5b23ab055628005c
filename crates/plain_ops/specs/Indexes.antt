use Rattle.std.specs.Prelude.{◌≡◌, ℕ, List}
use Rattle.std.specs.List.Sorted.{IsSortedByKey}
use Rattle.flow_types.specs.Tuples.{Tuple, key_of, tuple_cmp}
use Rattle.flow_model.specs.Env.{Tuples}
use Rattle.flow_model.specs.Rows.{with_key}

-- Rows in the order of their keys, in which those of one key are found without a walk along all.

-- the numbers of a key's fields, and rows in the order of their keys
pub record Index : Type 0 where
  pub key : List ℕ
  pub rows : Tuples

-- no row's key is below that of the row before it
abbrev pub AscendsByKey : List ℕ → Tuples → Type 0
AscendsByKey numbers rows = IsSortedByKey (key_of numbers) tuple_cmp rows

-- rows that were moved only past rows with other keys: those of each key stand in the order in which they stood
abbrev pub KeepsKeys : List ℕ → Tuples → Tuples → Type 0
KeepsKeys numbers before after = (key : Tuple) → with_key numbers key after ≡ with_key numbers key before

-- what an index has under a key's values
abbrev pub found : Index → Tuple → Tuples
found index key = with_key index.key key index.rows

-- an index of rows by a key: under all values of the key it has the rows with these values, in the order in which they came
abbrev pub IsIndexOf : List ℕ → Tuples → Index → Type 0
IsIndexOf numbers rows index = (key : Tuple) → found index key ≡ with_key numbers key rows
