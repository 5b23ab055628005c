use Rattle.std.specs.Prelude.{ℕ, Bool, true, false, List, map, codes}
use Rattle.std.specs.List.{flat_map}
use Rattle.std.specs.Fmt.{signed_decimal}
use Rattle.csv.specs.Writing.{default_writer, row_text}
use Rattle.flow_types.specs.declared.value.Value.{Value}
use Rattle.flow_types.specs.declared.value.Value.TheVariants as value
use Rattle.flow_types.specs.Tuples.{Tuple}
use Rattle.flow_types.specs.Bags.{ordered}

-- The text of a result. The form of a value is this project's own, and the line is that of csv's writer.

-- `true` or `false`
abbrev pub bool_text : Bool → List ℕ
bool_text true = codes "true"
bool_text false = codes "false"

-- a Long in decimal with `-` where it is negative, a Bool as `true` or `false`, a Str as its bytes
abbrev pub value_text : Value → List ℕ
value_text (value.Long n) = signed_decimal n
value_text (value.Bool b) = bool_text b
value_text (value.Str bytes) = bytes

-- the line of a tuple, as csv's writer writes its fields: a comma between them, quotes where they are needed, and a
-- line feed at the end
abbrev pub row_line : Tuple → List ℕ
row_line t = row_text default_writer (map value_text t)

-- the lines of rows, in their order
abbrev pub lines_of : List Tuple → List ℕ
lines_of rows = flat_map row_line rows

-- the text of a result: the lines of its rows in ascending order, equal rows as often as they occur
abbrev pub text_of : List Tuple → List ℕ
text_of rows = lines_of (ordered rows)
