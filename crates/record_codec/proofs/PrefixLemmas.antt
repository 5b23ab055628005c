-- Values at the front of bytes.
use Rattle.std.proofs.Common.{◌≡◌, ℕ, ◌+◌, ◌-◌, ◌<◌, ◌≤◌, Bool, true, false, ◌==◌, nat_le, List, [], ◌∷◌, ◌++◌, length, take, drop, slice_index_or, refl, sym, ◌∙◌, ap, subst, arith, length-append, length-drop, append_assoc, ◌↔◌, IsUtf8, IsTrue, All, ⊎_elim, ◌^◌, ℤ, w64, FitsSigned}
use Rattle.std.specs.Int.{to_be_bytes, from_be_bytes, cast_signed, w16}
use Rattle.std.specs.Ordering.{int_eq}
use Rattle.std.proofs.Math.Facts.{sfits_to_z}
use Rattle.std.proofs.lemmas.Int.{int_wrap_fits}
use Rattle.std.proofs.lemmas.Cmp.{int_eq_equiv}
use Rattle.std.proofs.lemmas.List.Elements.{All-take, All-drop}
use Rattle.record_codec.proofs.NumberLemmas.{long_bytes}
use Rattle.std.specs.Str.{is_utf8}
use Rattle.std.specs.List.{list_all}
use Rattle.std.proofs.lemmas.Bool.{cases_lt, and_parts, and_from, le-leb, leb-true, eqb-true, eq-eqb}
use Rattle.std.proofs.lemmas.Nat.{from_be_bytes-to_be_bytes_2}
use Rattle.std.proofs.lemmas.List.{take-append-drop, drop_at, append_cancel_left, length-take-le, drop-drop, drop_more, drop_all, nil_from_length, get_or_past}
use Rattle.std.proofs.lemmas.Str.{is_utf8-from_IsUtf8, IsUtf8-from_is_utf8}
use Rattle.flow_types.specs.declared.value.Value.{Value}
use Rattle.flow_types.specs.Tuples.{Tuple}
use Rattle.flow_types.specs.declared.field_type.FieldType.{FieldType}
use Rattle.flow_types.specs.declared.field_type.FieldType.TheVariants as type
use Rattle.flow_types.specs.Limits.{text_limit}
use Rattle.flow_types.specs.Values.{is_value, is_text}
use Rattle.flow_types.specs.Types.{Fields, fits_field, fits}
use Rattle.flow_types.specs.Records.{value_form, form, first_value, taken, tuple_of, IsRecord}
use Rattle.record_codec.specs.Prefixes.{BeginsWith, StandsFrom}

-- no Long stands in fewer bytes
pub no_long : (bytes : List ℕ) → length bytes < 8 → ¬ BeginsWith type.Long bytes
no_long bytes short begins = omega (arith, ap length begins.formed)

-- eight bytes stand where a Long does
pub long_inside : (f : FieldType) (start : ℕ) (seen : List ℕ) → f ≡ type.Long → start ≤ length seen → BeginsWith f (drop start seen)
    → start + 8 ≤ length seen
long_inside f start seen is inside begins =
    let long : BeginsWith type.Long (drop start seen) = subst (λ (g : FieldType). BeginsWith g (drop start seen)) is begins in
    omega (arith, ap length long.formed, length-drop start seen)

-- each byte is small, and so is what is read past the end
each_small : (bytes : List ℕ) → All (λ b. b < 256) bytes → (i : ℕ) → slice_index_or bytes i 0 < 256
each_small bytes small i =
    ⊎_elim (λ inside. small i 0 inside) (λ past. omega (arith, get_or_past bytes i 0 past)) (cases_lt i (length bytes))

-- a Long stands in any eight bytes
pub long_begins : (bytes : List ℕ) → 8 ≤ length bytes → All (λ b. b < 256) bytes → BeginsWith type.Long bytes
long_begins bytes long small =
    let front : List ℕ = take 8 bytes in
    let n : ℤ = cast_signed w64 (from_be_bytes w64 front) in
    let full : length front ≡ 8 = length-take-le 8 bytes long in
    let each : (i : ℕ) → slice_index_or front i 0 < 256 = each_small front (All-take (λ b. b < 256) 8 bytes small) in
    let bound : from_be_bytes w64 front < 2 ^ 64 = omega (arith, each 0, each 1, each 2, each 3, each 4, each 5, each 6, each 7) in
    let fit : FitsSigned w64 n = sfits_to_z (record { fits = bound }) in
    record {
      fitting = refl;
      value = subst (λ (z : ℤ). IsTrue (int_eq z n)) (sym (int_wrap_fits w64 n fit)) (int_eq_equiv.refl n);
      formed = sym (take-append-drop 8 bytes)
          ∙ ap (λ (xs : List ℕ). xs ++ drop 8 bytes) (sym (long_bytes n front full each refl));
    }

-- so one stands from a place on with eight bytes behind it
pub long_stands : (seen : List ℕ) (start : ℕ) → start + 8 ≤ length seen → All (λ b. b < 256) seen
    → StandsFrom type.Long seen start (start + 8)
long_stands seen start inside small = record {
  begins = long_begins (drop start seen) (omega (arith, length-drop start seen)) (All-drop (λ b. b < 256) start seen small);
  ends = refl;
  inside = inside;
}

-- a text's length is the one that its form names
pub text_length : (bytes s rest : List ℕ) → IsTrue (is_text s) → bytes ≡ (to_be_bytes w16 (length s) ++ s) ++ rest
    → from_be_bytes w16 (take 2 bytes) ≡ length s
text_length bytes s rest text formed =
    let short : length s ≤ text_limit = leb-true (length s) text_limit (and_parts (nat_le (length s) text_limit) (is_utf8 s) text).0 in
    let head : take 2 bytes ≡ to_be_bytes w16 (length s) = ap (take 2) formed in
    ap (λ (xs : List ℕ). from_be_bytes w16 xs) head ∙ from_be_bytes-to_be_bytes_2 (length s) (omega arith)

-- the bytes of a text, by its place
pub text_at : (start len : ℕ) (seen : List ℕ) → take (start + 2 + len - (start + 2)) (drop (start + 2) seen) ≡ take len (drop 2 (drop start seen))
text_at start len seen =
    let count : start + 2 + len - (start + 2) ≡ len = omega arith in
    ap (λ (n : ℕ). take n (drop (start + 2) seen)) count ∙ ap (take len) (sym (drop-drop 2 start seen))

-- the parts of a text's form
pub record IsTextForm (bound : ℕ) (bytes : List ℕ) : Type 0 where
  pub bounded : from_be_bytes w16 (take 2 bytes) ≤ bound
  pub long : 2 + from_be_bytes w16 (take 2 bytes) ≤ length bytes
  pub utf8 : IsUtf8 (take (from_be_bytes w16 (take 2 bytes)) (drop 2 bytes))

pub text_begins : (bound len : ℕ) (bytes : List ℕ) → bound ≤ text_limit → len ≡ from_be_bytes w16 (take 2 bytes)
    → to_be_bytes w16 len ≡ take 2 bytes → len ≤ bound → 2 + len ≤ length bytes → IsUtf8 (take len (drop 2 bytes))
    → BeginsWith (type.Str bound) bytes
text_begins bound len bytes limit same written short inside text =
    let n : ℕ = from_be_bytes w16 (take 2 bytes) in
    let s : List ℕ = take n (drop 2 bytes) in
    let long : length s ≡ n = length-take-le n (drop 2 bytes) (omega (arith, length-drop 2 bytes)) in
    record {
      fitting = le-leb (length s) bound (omega arith);
      value = and_from (nat_le (length s) text_limit) (is_utf8 s) (le-leb (length s) text_limit (omega arith))
          (is_utf8-from_IsUtf8 s (subst (λ (m : ℕ). IsUtf8 (take m (drop 2 bytes))) same text));
      formed = sym (take-append-drop 2 bytes)
          ∙ ap (λ (xs : List ℕ). take 2 bytes ++ xs) (sym (take-append-drop n (drop 2 bytes)) ∙ ap (λ (xs : List ℕ). s ++ xs) (drop-drop n 2 bytes))
          ∙ ap (λ (xs : List ℕ). xs ++ (s ++ drop (2 + n) bytes)) (sym written ∙ ap (λ (m : ℕ). to_be_bytes w16 m) (same ∙ sym long))
          ∙ sym (append_assoc (to_be_bytes w16 (length s)) s (drop (2 + n) bytes));
    }

pub text_parts : (bound : ℕ) (bytes : List ℕ) → BeginsWith (type.Str bound) bytes → IsTextForm bound bytes
text_parts bound bytes begins =
    let n : ℕ = from_be_bytes w16 (take 2 bytes) in
    let s : List ℕ = take n (drop 2 bytes) in
    let rest : List ℕ = drop (2 + n) bytes in
    let same : n ≡ length s = text_length bytes s rest begins.value begins.formed in
    record {
      bounded = omega (arith, leb-true (length s) bound begins.fitting);
      long = omega (arith, ap length begins.formed, length-append s rest);
      utf8 = IsUtf8-from_is_utf8 s (and_parts (nat_le (length s) text_limit) (is_utf8 s) begins.value).1;
    }

-- the value that bytes begin with lies within them
pub first_inside : (f : FieldType) (bytes : List ℕ) → BeginsWith f bytes → taken f bytes ≤ length bytes
first_inside type.Long bytes begins = omega (arith, ap length begins.formed)
first_inside type.Bool bytes begins = omega (arith, ap length begins.formed)
first_inside (type.Str bound) bytes begins = (text_parts bound bytes begins).long

-- where the form of the value that bytes are read as stands in front of others, they are those behind it
pub behind_first : (f : FieldType) (bytes rest : List ℕ) → IsTrue (is_value (first_value f bytes))
    → bytes ≡ value_form (first_value f bytes) ++ rest → drop (taken f bytes) bytes ≡ rest
behind_first type.Long bytes rest value formed = ap (drop 8) formed
behind_first type.Bool bytes rest value formed = ap (drop 1) formed
behind_first (type.Str bound) bytes rest value formed =
    let n : ℕ = from_be_bytes w16 (take 2 bytes) in
    let s : List ℕ = take n (drop 2 bytes) in
    let same : n ≡ length s = text_length bytes s rest value formed in
    let form : List ℕ = to_be_bytes w16 (length s) ++ s in
    let long : length form ≡ 2 + n = omega (arith, same) in
    ap (drop (2 + n)) formed ∙ drop_at form rest (2 + n) long

-- a record of fields begins with the first of them
pub record_begins : (f : FieldType) (fs : Fields) (bytes : List ℕ) → IsRecord (f ∷ fs) bytes → BeginsWith f bytes
record_begins f fs bytes is =
    let v : Value = first_value f bytes in
    let others : Tuple = tuple_of fs (drop (taken f bytes) bytes) in
    let value : IsTrue (is_value v) = (and_parts (is_value v) (list_all is_value others) is.tuple.values).0 in
    record {
      fitting = (and_parts (fits_field f v) (fits fs others) is.tuple.fitting).0;
      value = value;
      formed = is.formed ∙ ap (λ (xs : List ℕ). value_form v ++ xs) (sym (behind_first f bytes (form others) value is.formed));
    }

-- behind its first field the rest of a record is the record of the other fields
pub record_behind : (f : FieldType) (fs : Fields) (bytes : List ℕ) → BeginsWith f bytes
    → IsRecord (f ∷ fs) bytes ↔ IsRecord fs (drop (taken f bytes) bytes)
record_behind f fs bytes begins =
    let v : Value = first_value f bytes in
    let rest : List ℕ = drop (taken f bytes) bytes in
    let others : Tuple = tuple_of fs rest in (
      (λ whole. record {
        tuple = record {
          fitting = (and_parts (fits_field f v) (fits fs others) whole.tuple.fitting).1;
          values = (and_parts (is_value v) (list_all is_value others) whole.tuple.values).1;
        };
        formed = append_cancel_left (value_form v) rest (form others) (sym begins.formed ∙ whole.formed);
      }),
      (λ back. record {
        tuple = record {
          fitting = and_from (fits_field f v) (fits fs others) begins.fitting back.tuple.fitting;
          values = and_from (is_value v) (list_all is_value others) begins.value back.tuple.values;
        };
        formed = begins.formed ∙ ap (λ (xs : List ℕ). value_form v ++ xs) back.formed;
      }),
    )

-- the record of no fields is no bytes
pub record_of_none : (bytes : List ℕ) → IsRecord [] bytes ↔ (length bytes ≡ 0)
record_of_none bytes = (
  (λ is. ap length is.formed),
  (λ none. record { tuple = record { fitting = refl; values = refl }; formed = nil_from_length bytes none }),
)

-- one field more of a record was passed over
pub field_passed : (fields : Fields) (seen : List ℕ) (i start end : ℕ) (f : FieldType) → i < length fields
    → slice_index_or fields i f ≡ f → StandsFrom f seen start end
    → IsRecord (drop i fields) (drop start seen) ↔ IsRecord (drop (i + 1) fields) (drop end seen)
field_passed fields seen i start end f inside read stands =
    let rest : Fields = drop (i + 1) fields in
    let split : drop i fields ≡ f ∷ rest = drop_more fields i f inside ∙ ap (λ (x : FieldType). x ∷ rest) read in
    let moved : drop (taken f (drop start seen)) (drop start seen) ≡ drop end seen =
    drop-drop (taken f (drop start seen)) start seen ∙ ap (λ (n : ℕ). drop n seen) (sym stands.ends) in
    subst (λ (fs : Fields). IsRecord fs (drop start seen) ↔ IsRecord rest (drop end seen)) (sym split)
    (subst (λ (bytes : List ℕ). IsRecord (f ∷ rest) (drop start seen) ↔ IsRecord rest bytes) moved
    (record_behind f rest (drop start seen) stands.begins))

-- behind the last field a record ends
pub fields_done : (fields : Fields) (seen : List ℕ) (i start count : ℕ) → length fields ≤ i → start ≤ length seen
    → count ≡ length seen → IsRecord fields seen ↔ IsRecord (drop i fields) (drop start seen)
    → IsTrue (start == count) ↔ IsRecord fields seen
fields_done fields seen i start count past inside counted same =
    let left : List ℕ = drop start seen in
    let long : length left ≡ length seen - start = length-drop start seen in
    let ends : IsRecord fields seen ↔ IsRecord [] left =
    subst (λ (fs : Fields). IsRecord fields seen ↔ IsRecord fs left) (drop_all i fields past) same in (
      (λ yes. ends.1 ((record_of_none left).1 (omega (arith, eqb-true start count yes)))),
      (λ is. eq-eqb start count (omega (arith, (record_of_none left).0 (ends.0 is)))),
    )

-- a text stands where its length is within the bound and its bytes are UTF-8
pub text_stands : (bound start len : ℕ) (seen : List ℕ) (answer : Bool) → bound ≤ text_limit → start + 2 + len ≤ length seen
    → len ≡ from_be_bytes w16 (take 2 (drop start seen)) → to_be_bytes w16 len ≡ take 2 (drop start seen) → len ≤ bound
    → IsTrue answer → IsTrue answer ↔ IsUtf8 (take (start + 2 + len - (start + 2)) (drop (start + 2) seen))
    → StandsFrom (type.Str bound) seen start (start + 2 + len)
text_stands bound start len seen answer limit inside same written short passes tells =
    let bytes : List ℕ = drop start seen in
    let text : IsUtf8 (take len (drop 2 bytes)) = subst IsUtf8 (text_at start len seen) (tells.0 passes) in
    record {
      begins = text_begins bound len bytes limit same written short (omega (arith, length-drop start seen)) text;
      ends = omega (arith, same);
      inside = inside;
    }

-- no text stands where the bytes aren't UTF-8
pub no_text : (bound start len : ℕ) (seen : List ℕ) (answer : Bool) → len ≡ from_be_bytes w16 (take 2 (drop start seen))
    → answer ≡ false → IsTrue answer ↔ IsUtf8 (take (start + 2 + len - (start + 2)) (drop (start + 2) seen))
    → ¬ BeginsWith (type.Str bound) (drop start seen)
no_text bound start len seen answer same fails tells begins =
    let bytes : List ℕ = drop start seen in
    let text : IsUtf8 (take len (drop 2 bytes)) =
    subst (λ (n : ℕ). IsUtf8 (take n (drop 2 bytes))) (sym same) (text_parts bound bytes begins).utf8 in
    let passes : answer ≡ true = tells.1 (subst IsUtf8 (sym (text_at start len seen)) text) in
    cc
