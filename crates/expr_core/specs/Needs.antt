use Rattle.std.specs.Prelude.{ℕ, ◌*◌, ◌+◌, Bool, ◌&&◌, List, Option, Some, None, is_some, sum_by}
use Rattle.std.specs.List.{list_all}
use Rattle.flow_types.specs.Limits.{text_limit}
use Rattle.flow_types.specs.declared.field_type.FieldType.{FieldType}
use Rattle.flow_types.specs.declared.expr.Expr.{Expr}
use Rattle.flow_types.specs.Types.{Fields, width}
use Rattle.flow_types.specs.ExprTypes.{type_of, typing_of, extent_of, is_limited, list_limit}

-- What expressions need is this project's own.

-- an expression has a type over the fields, and no part of it is wider than a text
abbrev pub is_typed : Fields → Expr → Bool
is_typed fields e = is_some (type_of fields e) && (typing_of fields e).narrow

-- The most bytes of texts that are held while an expression is evaluated: one text for each of the lists that
-- stand inside one another. Where the second part of a list is evaluated, the text of the first is held.
abbrev pub room_of : Expr → ℕ
room_of e = text_limit * (extent_of e).lists

-- the bytes that the widest value of a type takes in a record, where there is a type
abbrev pub width_of_type : Option FieldType → ℕ
width_of_type None = 0
width_of_type (Some f) = width f

-- the bytes of the widest record of columns
abbrev pub widest_of : Fields → List Expr → ℕ
widest_of fields columns = sum_by (λ e. width_of_type (type_of fields e)) columns

-- each column has a type, no part of it is wider than a text, and it is within an expression's limits
abbrev pub are_typed : Fields → List Expr → Bool
are_typed fields columns = list_all (λ e. is_typed fields e && is_limited e) columns

-- the most bytes that are used while a column within an expression's limits is evaluated: two for a text's
-- length, and those of its texts
abbrev pub column_room : ℕ
column_room = 2 + text_limit * list_limit

-- the bytes of a scratch: 36 times 16,384. A new record and one column take 33 times as many at most.
abbrev pub scratch_bytes : ℕ
scratch_bytes = 589824
