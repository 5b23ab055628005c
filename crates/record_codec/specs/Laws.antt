use Rattle.std.specs.Prelude.{◌≡◌, ◌≤◌, ℕ, List}
use Rattle.flow_types.specs.Types.{Fields, widest}
use Rattle.flow_types.specs.Tuples.{Tuple}
use Rattle.flow_types.specs.Records.{form, size, IsTupleOf, IsRecordOf, IsRecord}

-- Laws that follow from the forms of records.

-- The record of any tuple of a schema is the record of the tuple that it is read as.
abbrev pub IsRecordOfRead : Type 0
IsRecordOfRead = (fields : Fields) (t : Tuple) (bytes : List ℕ) → IsRecordOf fields t bytes → IsRecord fields bytes

-- Two tuples of a schema with one record are one tuple.
abbrev pub HasOneTuple : Type 0
HasOneTuple = (fields : Fields) (t u : Tuple) → IsTupleOf fields t → IsTupleOf fields u → form t ≡ form u → t ≡ u

-- No record of a schema is longer than its widest.
abbrev pub IsWithinWidest : Type 0
IsWithinWidest = (fields : Fields) (t : Tuple) → IsTupleOf fields t → size t ≤ widest fields
