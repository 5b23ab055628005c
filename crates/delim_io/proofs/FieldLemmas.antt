-- Steps of reading the text of a field.
use Rattle.std.proofs.Common.{◌≡◌, ℕ, ◌≤◌, List, length, Bool, true, false, ◌&&◌, if◌then◌else◌, ◌∷◌, [], ℤ, Option, option_map, Some, None, nat_le, refl, ◌∙◌, ap, inl, inr, IsUtf8}
use Rattle.std.specs.Str.{is_utf8}
use Rattle.std.proofs.lemmas.Bool.{le-leb, and_right, and_from, cases_Bool}
use Rattle.std.proofs.lemmas.Str.{is_utf8-from_IsUtf8, IsUtf8-from_is_utf8}
use Rattle.flow_types.specs.declared.value.Value.{Value}
use Rattle.flow_types.specs.declared.value.Value.TheVariants as value
use Rattle.flow_types.specs.declared.field_type.FieldType.{FieldType}
use Rattle.flow_types.specs.declared.field_type.FieldType.TheVariants as type
use Rattle.flow_types.specs.Types.{Fields, fits_field, fits}
use Rattle.flow_types.specs.Tuples.{Tuple}
use Rattle.delim_io.specs.Fields.{long_value, bool_value, text_value, field_value, first_and_others, tuple_of}

-- UTF-8 within the bound
pub text_found : (bound : ℕ) (text : List ℕ) → length text ≤ bound → IsUtf8 text → text_value bound text ≡ Some text
text_found bound text short valid =
    let a = le-leb (length text) bound short in
    let b = is_utf8-from_IsUtf8 text valid in
    rw (a, b) refl

-- no UTF-8
pub text_invalid : (bound : ℕ) (text : List ℕ) → ¬ (IsUtf8 text) → text_value bound text ≡ None
text_invalid bound text invalid = elim (cases_Bool (is_utf8 text)) [
  | inl valid ↦ absurd (invalid (IsUtf8-from_is_utf8 text valid))
  | inr e ↦ let f = and_right (nat_le (length text) bound) (is_utf8 text) e in rw f refl
]

long_fits : (o : Option ℤ) (v : Value) → option_map value.Long o ≡ Some v → fits_field type.Long v ≡ true
long_fits None v e = cc
long_fits (Some n) v e =
    let same : v ≡ value.Long n = cc in
    ap (fits_field type.Long) same

bool_fits : (o : Option Bool) (v : Value) → option_map value.Bool o ≡ Some v → fits_field type.Bool v ≡ true
bool_fits None v e = cc
bool_fits (Some b) v e =
    let same : v ≡ value.Bool b = cc in
    ap (fits_field type.Bool) same

text_fits : (bound : ℕ) (text : List ℕ) (v : Value) → option_map value.Str (text_value bound text) ≡ Some v → fits_field (type.Str bound) v ≡ true
text_fits bound text v e = by (nat_le (length text) bound) (is_utf8 text) refl e
  where
    by : (a b : Bool) → nat_le (length text) bound ≡ a → option_map value.Str (if a && b then Some text else None) ≡ Some v → fits_field (type.Str bound) v ≡ true
    by true true short e =
        let same : v ≡ value.Str text = cc in
        ap (fits_field (type.Str bound)) same ∙ short
    by true false short e = cc
    by false b short e = cc

-- the value of a field's text fits the field
field_fits : (f : FieldType) (text : List ℕ) (v : Value) → field_value f text ≡ Some v → fits_field f v ≡ true
field_fits type.Long text v e = long_fits (long_value text) v e
field_fits type.Bool text v e = bool_fits (bool_value text) v e
field_fits (type.Str bound) text v e = text_fits bound text v e

-- the tuple of a line's texts fits the fields
pub tuple_fits : (fields : Fields) (texts : List (List ℕ)) (t : Tuple) → tuple_of fields texts ≡ Some t → fits fields t ≡ true
tuple_fits [] [] t e =
    let same : t ≡ [] = cc in
    ap (fits []) same
tuple_fits [] (text ∷ texts) t e = cc
tuple_fits (f ∷ fs) [] t e = cc
tuple_fits (f ∷ fs) (text ∷ texts) t e = by (field_value f text) (tuple_of fs texts) refl (λ vs b. tuple_fits fs texts vs b) e
  where
    by : (first : Option Value) (others : Option Tuple) → field_value f text ≡ first → ((vs : Tuple) → others ≡ Some vs → fits fs vs ≡ true)
        → first_and_others first others ≡ Some t → fits (f ∷ fs) t ≡ true
    by None None a more e = cc
    by None (Some vs) a more e = cc
    by (Some v) None a more e = cc
    by (Some v) (Some vs) a more e =
        let same : t ≡ v ∷ vs = cc in
        ap (fits (f ∷ fs)) same ∙ and_from (fits_field f v) (fits fs vs) (field_fits f text v a) (more vs refl)
