use Rattle.std.specs.Prelude.{ℕ, ◌-◌, ◌^◌, ◌==◌, nat_le, Bool, true, false, ◌&&◌, if◌then◌else◌, List, [], ◌∷◌, length, ℤ, pos, neg_ℤ, Option, Some, None, option_map, codes}
use Rattle.std.specs.Str.{bytes_eq, is_utf8}
use Rattle.flow_types.specs.Decimal.{number_up_to}
use Rattle.flow_types.specs.declared.value.Value.{Value}
use Rattle.flow_types.specs.declared.value.Value.TheVariants as value
use Rattle.flow_types.specs.declared.field_type.FieldType.{FieldType}
use Rattle.flow_types.specs.declared.field_type.FieldType.TheVariants as type
use Rattle.flow_types.specs.Types.{Fields}
use Rattle.flow_types.specs.Tuples.{Tuple}

-- The text of a field, and the value that it stands for. The rules are this project's own.

-- a Long: an optional `-` and a numeral, with a value from -2^63 to 2^63 - 1
abbrev pub long_value : List ℕ → Option ℤ
long_value [] = None
long_value (b ∷ rest) =
    if b == 45 then option_map (λ n. neg_ℤ (pos n)) (number_up_to (2 ^ 63) rest)
    else option_map pos (number_up_to (2 ^ 63 - 1) (b ∷ rest))

-- a Bool: exactly `true` or `false`
abbrev pub bool_value : List ℕ → Option Bool
bool_value text =
    if bytes_eq text (codes "true") then Some true
    else if bytes_eq text (codes "false") then Some false
    else None

-- a Str: UTF-8 of at most `bound` bytes
abbrev pub text_value : ℕ → List ℕ → Option (List ℕ)
text_value bound text = if nat_le (length text) bound && is_utf8 text then Some text else None

-- the value of a field's text, where it is one of the field's type
abbrev pub field_value : FieldType → List ℕ → Option Value
field_value type.Long text = option_map value.Long (long_value text)
field_value type.Bool text = option_map value.Bool (bool_value text)
field_value (type.Str bound) text = option_map value.Str (text_value bound text)

-- a first part and the others, where both are there
abbrev pub first_and_others : {X : Type 0} → Option X → Option (List X) → Option (List X)
first_and_others None None = None
first_and_others None (Some xs) = None
first_and_others (Some x) None = None
first_and_others (Some x) (Some xs) = Some (x ∷ xs)

-- the tuple of the texts of a line's fields: as many as the schema has, each with a value of its type
abbrev pub tuple_of : Fields → List (List ℕ) → Option Tuple
tuple_of [] [] = Some []
tuple_of [] (text ∷ texts) = None
tuple_of (f ∷ fs) [] = None
tuple_of (f ∷ fs) (text ∷ texts) = first_and_others (field_value f text) (tuple_of fs texts)
