-- An input of the first form that is read line by line. The rules are this project's own.
use Rattle.std.specs.Prelude.{◌≡◌, ◌≢◌, ℕ, ◌+◌, ◌<◌, ◌≤◌, nat_le, Bool, true, false, ◌&&◌, if◌then◌else◌, List, [], ◌++◌, length, Option, Some, None}
use Rattle.std.specs.List.{list_all}
use Rattle.flow_outside.specs.Readers.{Reading, name_of}
use Rattle.flow_types.specs.Limits.{record_limit}
use Rattle.flow_types.specs.Records.{form, IsRecord, tuple_of}
use Rattle.flow_types.specs.Tuples.{Tuple}
use Rattle.flow_types.specs.Types.{Fields}
use Rattle.delim_io.specs.Fields.{first_and_others}
use Rattle.delim_io.specs.Input.{input_limit, is_plain_byte, parts_at, tuples_of_parts}

-- the rows of what is left of an input behind its first `given` bytes, and None exactly where it isn't of the first form
abbrev pub rows_left : Fields → ℕ → (given : ℕ) → List ℕ → Option (List Tuple)
rows_left fields delimiter given bytes =
    if nat_le (given + length bytes) input_limit && list_all is_plain_byte bytes then tuples_of_parts fields delimiter (parts_at 10 bytes)
    else None

-- A reader of lines is seen as the schema of its rows, its delimiter, how many bytes of the input it gave as rows, the bytes
-- behind these that it has read, and the record of the row that it gave last.
pub record LinesView : Type 0 where
  pub fields : Fields
  pub delimiter : ℕ
  pub given : ℕ
  pub ahead : List ℕ
  pub row_bytes : List ℕ

-- the rows that are left, where these bytes are left to be read
abbrev pub rows_ahead : LinesView → (left : List ℕ) → Option (List Tuple)
rows_ahead lines left = rows_left lines.fields lines.delimiter lines.given (lines.ahead ++ left)

-- The reader has the record of a row of its schema.
pub record HasRecord (lines : LinesView) : Type 0 where
  pub is : IsRecord lines.fields lines.row_bytes
  pub short : length lines.row_bytes ≤ record_limit

-- A count rises, and not past a limit: a measure for whoever reads to the end.
pub record RisesBelow (limit old new : ℕ) : Type 0 where
  pub rises : old < new
  pub below : new ≤ limit

-- A row was given: the first of those that were left. The others are left. The reader has its record, which is read
-- as that row.
pub record GivesRow (before after : LinesView) (left left_now : List ℕ) : Type 0 where
  pub tuple : Tuple
  pub shown : after.row_bytes ≡ form tuple
  pub read : tuple_of before.fields after.row_bytes ≡ tuple
  pub rows : rows_ahead before left ≡ first_and_others (Some tuple) (rows_ahead after left_now)

-- What an advance makes of the bytes that were left, where these are told: it gives a row, or none is left.
abbrev pub AdvancesLines : (more : Bool) → (before after : LinesView) → (left : List ℕ) → (now : Option (List ℕ)) → Type 0
AdvancesLines true before after left now = (left_now : List ℕ) × ((now ≡ Some left_now) × GivesRow before after left left_now)
AdvancesLines false before after left now = rows_ahead before left ≡ Some []

-- The bytes that a reader of the shelf gave stand behind those that were read ahead.
pub record ReadsAhead (before after : LinesView) (left : List ℕ) (now : Option (List ℕ)) : Type 0 where
  pub left_now : List ℕ
  pub told : now ≡ Some left_now
  pub bytes : before.ahead ++ left ≡ after.ahead ++ left_now

-- After a call that may be followed by another the reader of the shelf lives, under its name; at the end it has ended.
abbrev pub StaysOpen : (more : Bool) → (old new : Option Reading) → (living_old living_new : ℕ) → Type 0
StaysOpen true old new living_old living_new = (new ≢ None) × ((name_of new ≡ name_of old) × (living_new ≡ living_old))
StaysOpen false old new living_old living_new = (new ≡ None) × (living_new + 1 ≡ living_old)
