use Rattle.std.specs.Prelude.{◌≡◌, ℕ, ◌==◌, nat_le, Bool, not, false, ◌&&◌, ◌||◌, if◌then◌else◌, List, [], ◌∷◌, length, Option, Some, None}
use Rattle.std.specs.List.{list_all, slice_split}
use Rattle.csv.specs.Machine.{Read, next_record}
use Rattle.csv.specs.Reading.{default_config, is_bom, strip_bom}
use Rattle.csv.specs.declared.parser.State.TheVariants as st
use Rattle.flow_types.specs.Types.{Fields}
use Rattle.flow_types.specs.Tuples.{Tuple}
use Rattle.delim_io.specs.Fields.{first_and_others, tuple_of}

-- The first input form, whose lines can be cut by hand, is this project's own.

-- the most bytes of an input
abbrev pub input_limit : ℕ
input_limit = 65536

-- neither a quote nor a carriage return
abbrev pub is_plain_byte : ℕ → Bool
is_plain_byte b = not (b == 34 || b == 13)

-- no byte that csv sets apart in a line: neither a quote, a carriage return nor a line feed
abbrev pub is_unmarked : ℕ → Bool
is_unmarked b = is_plain_byte b && not (b == 10)

-- the parts of a text between the bytes of one kind; one more than there are such bytes
abbrev pub parts_at : ℕ → List ℕ → List (List ℕ)
parts_at byte text = slice_split (λ b. b == byte) text

-- a text begins with the three bytes EF BB BF
abbrev pub starts_with_mark : List ℕ → Bool
starts_with_mark [] = false
starts_with_mark (a ∷ []) = false
starts_with_mark (a ∷ b ∷ []) = false
starts_with_mark (a ∷ b ∷ c ∷ rest) = is_bom a b c

-- at least one byte, and no mark at the start
abbrev pub is_plain_line : List ℕ → Bool
is_plain_line line = nat_le 1 (length line) && not (starts_with_mark line)

-- the tuple of a line, split at the delimiter
abbrev pub tuple_of_line : Fields → ℕ → List ℕ → Option Tuple
tuple_of_line fields delimiter line = if is_plain_line line then tuple_of fields (parts_at delimiter line) else None

-- the tuples of the parts of a text between its line feeds: each part but the last is a line, and what stands
-- after the last line feed is empty
abbrev pub tuples_of_parts : Fields → ℕ → List (List ℕ) → Option (List Tuple)
tuples_of_parts fields delimiter [] = None
tuples_of_parts fields delimiter (last ∷ []) = if length last == 0 then Some [] else None
tuples_of_parts fields delimiter (line ∷ next ∷ parts) =
    first_and_others (tuple_of_line fields delimiter line) (tuples_of_parts fields delimiter (next ∷ parts))

-- the rows of an input, and None exactly where it isn't of the first form: it has at most 65,536 bytes, none of them
-- a quote or a carriage return, it is empty or its last byte is a line feed, and each of its lines has a tuple
abbrev pub rows_of : Fields → ℕ → List ℕ → Option (List Tuple)
rows_of fields delimiter bytes =
    if nat_le (length bytes) input_limit && list_all is_plain_byte bytes then tuples_of_parts fields delimiter (parts_at 10 bytes)
    else None

-- what csv reads of a line with this delimiter: the fields of the first record, and what is left behind it
abbrev pub csv_record : ℕ → List ℕ → Option Read
csv_record delimiter line = next_record (record default_config { delimiter = delimiter }) st.StartRecord [] [] (strip_bom line)

-- csv reads a line as its parts between the delimiters, and nothing is left
abbrev pub IsReadAsParts : ℕ → List ℕ → Type 0
IsReadAsParts delimiter line = csv_record delimiter line ≡ Some (parts_at delimiter line, st.StartRecord, [])
