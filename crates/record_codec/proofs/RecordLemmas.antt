-- Laws of records.
use Rattle.std.proofs.Common.{◌≡◌, ℕ, ◌+◌, ◌<◌, ◌≤◌, ◌^◌, true, false, nat_le, ◌&&◌, List, [], ◌∷◌, ◌++◌, length, take, drop, refl, sym, ◌∙◌, ap, subst, arith, length-append, IsTrue, IfSome, is_some, Option, Some, None, ℤ, pos, negsuc, FitsSigned, to_z-of_z}
use Rattle.std.proofs.lemmas.List.Sums.{sum_by-cons}
use Rattle.std.proofs.lemmas.Bool.Decides.{Decides-int_eq}
use Rattle.std.proofs.lemmas.Int.{SFits-int_wrap}
use Rattle.std.specs.Int.{to_be_bytes, from_be_bytes, cast_signed, cast_unsigned, w16, w64, int_wrap}
use Rattle.std.specs.Str.{is_utf8}
use Rattle.std.specs.List.{list_all}
use Rattle.std.proofs.lemmas.Bool.{and_parts, leb-true}
use Rattle.std.proofs.lemmas.Nat.{from_be_bytes-to_be_bytes_2, from_be_bytes-to_be_bytes_8}
use Rattle.std.proofs.lemmas.List.{take_at, drop_at}
use Rattle.flow_types.specs.declared.value.Value.{Value}
use Rattle.flow_types.specs.declared.value.Value.TheVariants as value
use Rattle.flow_types.specs.declared.field_type.FieldType.{FieldType}
use Rattle.flow_types.specs.declared.field_type.FieldType.TheVariants as type
use Rattle.flow_types.specs.Tuples.{Tuple}
use Rattle.flow_types.specs.Limits.{text_limit, field_limit, record_limit}
use Rattle.flow_types.specs.Values.{is_value, is_long, is_text}
use Rattle.flow_types.specs.Types.{Fields, fits_field, fits, width, widest, is_schema, is_bounded}
use Rattle.flow_types.specs.Records.{value_form, form, size, first_value, taken, tuple_of, IsRecord, IsRecordOf, ReadsAsWritten}
use Rattle.record_codec.specs.Laws.{HasOneTuple, IsRecordOfRead, IsWithinWidest}

-- a value's form takes as many bytes as its field is wide, at most
pub form_width : (f : FieldType) (v : Value) → IsTrue (fits_field f v) → length (value_form v) ≤ width f
form_width type.Long (value.Long n) fit = omega arith
form_width type.Long (value.Bool b) fit = cc
form_width type.Long (value.Str s) fit = cc
form_width type.Bool (value.Long n) fit = cc
form_width type.Bool (value.Bool b) fit = omega arith
form_width type.Bool (value.Str s) fit = cc
form_width (type.Str bound) (value.Long n) fit = cc
form_width (type.Str bound) (value.Bool b) fit = cc
form_width (type.Str bound) (value.Str s) fit = omega (arith, leb-true (length s) bound fit)

-- no form is longer than the widest
pub form_widest : (fields : Fields) (t : Tuple) → IsTrue (fits fields t) → length (form t) ≤ widest fields
form_widest [] [] fit = omega arith
form_widest [] (v ∷ vs) fit = cc
form_widest (f ∷ fs) [] fit = cc
form_widest (f ∷ fs) (v ∷ vs) fit =
    let parts : (fits_field f v ≡ true) × (fits fs vs ≡ true) = and_parts (fits_field f v) (fits fs vs) fit in
    let long : length (form (v ∷ vs)) ≡ length (value_form v) + length (form vs) = length-append (value_form v) (form vs) in
    let wide : widest (f ∷ fs) ≡ width f + widest fs = sum_by-cons width f fs in
    omega (arith, form_width f v parts.0, form_widest fs vs parts.1)

pub is_within_widest : IsWithinWidest
is_within_widest fields t is = form_widest fields t is.fitting

-- the record of a tuple that fits a schema is small
pub tuple_small : (fields : Fields) (t : Tuple) → IsTrue (is_schema fields) → IsTrue (fits fields t) → size t ≤ record_limit
tuple_small fields t schema fit =
    let narrow : widest fields ≤ record_limit =
    leb-true (widest fields) record_limit (and_parts (nat_le 1 (length fields) && nat_le (length fields) field_limit && list_all is_bounded fields)
    (nat_le (widest fields) record_limit) schema).1 in
    omega (arith, form_widest fields t fit)

-- so is a size that is told exactly where the tuple fits
pub size_small : (fields schema : Fields) (u : Tuple) (told : Option ℕ) → fields ≡ schema → IsTrue (is_schema schema)
    → is_some told ≡ fits fields u → IfSome told (λ n. n ≡ size u) → IfSome told (λ n. n ≤ record_limit)
size_small fields schema u None same limits tells is = tt
size_small fields schema u (Some n) same limits tells is =
    omega (arith, is, tuple_small fields u (subst (λ (fs : Fields). IsTrue (is_schema fs)) (sym same) limits) (sym tells))

-- the record of a schema is small
pub record_small : (fields : Fields) (bytes : List ℕ) → IsTrue (is_schema fields) → IsRecord fields bytes → length bytes ≤ record_limit
record_small fields bytes schema is =
    omega (arith, ap length is.formed, tuple_small fields (tuple_of fields bytes) schema is.tuple.fitting)

-- the bits of a Long are a number of 64 bits, and stand for it
pub bits_small : (n : ℤ) → FitsSigned w64 n → cast_unsigned w64 n < 2 ^ 64
bits_small (pos n) fit = omega (arith, fit.sfits)
bits_small (negsuc n) fit = omega arith

pub long_read : (n : ℤ) → IsTrue (is_long n) → cast_signed w64 (from_be_bytes w64 (to_be_bytes w64 (cast_unsigned w64 n))) ≡ n
long_read n is =
    let same : int_wrap w64 n ≡ n = (Decides-int_eq (int_wrap w64 n) n).0 is in
    let fit : FitsSigned w64 n = subst (λ (z : ℤ). FitsSigned w64 z) same (SFits-int_wrap w64 n) in
    ap (λ (m : ℕ). cast_signed w64 m) (from_be_bytes-to_be_bytes_8 (cast_unsigned w64 n) (bits_small n fit)) ∙ to_z-of_z fit

-- a text's length is read as it was written
pub length_read : (s : List ℕ) → IsTrue (is_text s) → from_be_bytes w16 (to_be_bytes w16 (length s)) ≡ length s
length_read s text =
    let short : length s ≤ text_limit = leb-true (length s) text_limit (and_parts (nat_le (length s) text_limit) (is_utf8 s) text).0 in
    from_be_bytes-to_be_bytes_2 (length s) (omega arith)

-- what stands in front of other bytes is read as it was written, and what is behind it are those
pub first_read : (f : FieldType) (v : Value) (rest : List ℕ) → IsTrue (fits_field f v) → IsTrue (is_value v)
    → (first_value f (value_form v ++ rest) ≡ v) × (drop (taken f (value_form v ++ rest)) (value_form v ++ rest) ≡ rest)
first_read type.Long (value.Long n) rest fit is = (ap (λ (z : ℤ). value.Long z) (long_read n is), refl)
first_read type.Long (value.Bool b) rest fit is = cc
first_read type.Long (value.Str s) rest fit is = cc
first_read type.Bool (value.Long n) rest fit is = cc
first_read type.Bool (value.Bool true) rest fit is = (refl, refl)
first_read type.Bool (value.Bool false) rest fit is = (refl, refl)
first_read type.Bool (value.Str s) rest fit is = cc
first_read (type.Str bound) (value.Long n) rest fit is = cc
first_read (type.Str bound) (value.Bool b) rest fit is = cc
first_read (type.Str bound) (value.Str s) rest fit is =
    let form : List ℕ = to_be_bytes w16 (length s) ++ s in
    let long : length form ≡ 2 + length s = omega arith in (
      ap (λ (n : ℕ). value.Str (take n (s ++ rest))) (length_read s is) ∙ ap (λ (xs : List ℕ). value.Str xs) (take_at s rest (length s) refl),
      ap (λ (n : ℕ). drop (2 + n) (form ++ rest)) (length_read s is) ∙ drop_at form rest (2 + length s) long,
    )

pub form_read : (fields : Fields) (t : Tuple) → IsTrue (fits fields t) → IsTrue (list_all is_value t) → tuple_of fields (form t) ≡ t
form_read [] [] fit is = refl
form_read [] (v ∷ vs) fit is = cc
form_read (f ∷ fs) [] fit is = cc
form_read (f ∷ fs) (v ∷ vs) fit is =
    let fitting : (fits_field f v ≡ true) × (fits fs vs ≡ true) = and_parts (fits_field f v) (fits fs vs) fit in
    let values : (is_value v ≡ true) × (list_all is_value vs ≡ true) = and_parts (is_value v) (list_all is_value vs) is in
    let first : (first_value f (value_form v ++ form vs) ≡ v) × (drop (taken f (value_form v ++ form vs)) (value_form v ++ form vs) ≡ form vs) =
    first_read f v (form vs) fitting.0 values.0 in
    ap (λ (x : Value). x ∷ tuple_of fs (drop (taken f (value_form v ++ form vs)) (value_form v ++ form vs))) first.0
    ∙ ap (λ (xs : Tuple). v ∷ xs) (ap (tuple_of fs) first.1 ∙ form_read fs vs fitting.1 values.1)

pub reads_as_written : ReadsAsWritten
reads_as_written fields t bytes is = ap (tuple_of fields) is.formed ∙ form_read fields t is.tuple.fitting is.tuple.values

pub has_one_tuple : HasOneTuple
has_one_tuple fields t u left right same =
    sym (form_read fields t left.fitting left.values) ∙ ap (tuple_of fields) same ∙ form_read fields u right.fitting right.values

pub is_record_of_read : IsRecordOfRead
is_record_of_read fields t bytes is =
    subst (λ (u : Tuple). IsRecordOf fields u bytes) (sym (reads_as_written fields t bytes is)) is
