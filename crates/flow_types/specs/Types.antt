use Rattle.std.specs.Prelude.{ℕ, ◌+◌, Bool, true, false, ◌&&◌, nat_le, List, [], ◌∷◌, length, take, sum_by}
use Rattle.std.specs.List.{list_all}
use Rattle.flow_types.specs.Limits.{text_limit, field_limit, record_limit}
use Rattle.flow_types.specs.declared.value.Value.{Value}
use Rattle.flow_types.specs.declared.value.Value.TheVariants as value
use Rattle.flow_types.specs.declared.field_type.FieldType.{FieldType}
use Rattle.flow_types.specs.declared.field_type.FieldType.TheVariants as type

-- The types of fields are this project's own.

-- a schema: the types of a tuple's fields
abbrev pub Fields : Type 0
Fields = List FieldType

-- the bytes that the widest value of a field takes in a record: a Long 8, a Bool 1, a Str its bound
-- and two more for its length
abbrev pub width : FieldType → ℕ
width type.Long = 8
width type.Bool = 1
width (type.Str bound) = bound + 2

-- the bytes of the widest record of a schema
abbrev pub widest : Fields → ℕ
widest fields = sum_by width fields

-- every value of the field takes as many bytes: it is no text
abbrev pub has_one_width : FieldType → Bool
has_one_width type.Long = true
has_one_width type.Bool = true
has_one_width (type.Str bound) = false

-- no text stands before a field: so it begins at one place in every record, behind the widths of the fields before it
abbrev pub is_placed : Fields → ℕ → Bool
is_placed fields number = list_all has_one_width (take number fields)

-- a bound that a text can have
abbrev pub is_bounded : FieldType → Bool
is_bounded type.Long = true
is_bounded type.Bool = true
is_bounded (type.Str bound) = nat_le bound text_limit

-- 1 to 32 fields, no bound above a text's, and no record above 16,384 bytes
abbrev pub is_schema : Fields → Bool
is_schema fields =
    nat_le 1 (length fields) && nat_le (length fields) field_limit && list_all is_bounded fields && nat_le (widest fields) record_limit

-- a value has its field's kind, and a Str doesn't exceed its bound
abbrev pub fits_field : FieldType → Value → Bool
fits_field type.Long (value.Long n) = true
fits_field type.Long (value.Bool b) = false
fits_field type.Long (value.Str s) = false
fits_field type.Bool (value.Long n) = false
fits_field type.Bool (value.Bool b) = true
fits_field type.Bool (value.Str s) = false
fits_field (type.Str bound) (value.Long n) = false
fits_field (type.Str bound) (value.Bool b) = false
fits_field (type.Str bound) (value.Str s) = nat_le (length s) bound

-- a tuple has as many values as the schema has fields, each of which fits its field
abbrev pub fits : Fields → List Value → Bool
fits [] [] = true
fits [] (v ∷ vs) = false
fits (f ∷ fs) [] = false
fits (f ∷ fs) (v ∷ vs) = fits_field f v && fits fs vs
