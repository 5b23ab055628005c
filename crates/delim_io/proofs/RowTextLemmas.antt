-- The texts of a record's fields, where these lie.
use Rattle.std.proofs.Common.{Result, OnOk, subst, ◌≡◌, ℕ, zero, suc, ◌+◌, ◌-◌, ◌<◌, not, ◌==◌, pos, List, [], ◌∷◌, ◌++◌, length, map, take, drop, slice_index, slice_index_or, refl, sym, ap, ◌∙◌, arith}
use Rattle.std.specs.Int.{cast_signed, from_be_bytes, w64}
use Rattle.std.specs.Fmt.{signed_decimal}
use Rattle.flow_types.specs.declared.field_type.FieldType.{FieldType}
use Rattle.flow_types.specs.declared.field_type.FieldType.TheVariants as type
use Rattle.std.proofs.lemmas.List.{map-append, take_more}
use Rattle.flow_types.specs.declared.value.Value.TheVariants as value
use Rattle.flow_types.specs.Tuples.{Tuple, field}
use Rattle.flow_types.specs.Types.{Fields}
use Rattle.flow_types.specs.Records.{first_value, taken, tuple_of}
use Rattle.record_codec.specs.declared.place.Place.{Place}
use Rattle.record_codec.specs.Places.{content, place_in, place_of, start_of}
use Rattle.record_codec.proofs.PlaceLemmas.{tuple_at}
use Rattle.delim_io.specs.ResultText.{bool_text, value_text}

module _ (fields schema : Fields) (seen : List ℕ) (i : ℕ) (f : FieldType) (same : fields ≡ schema) (low : i < length schema) (kind : slice_index_or fields i type.Long ≡ f) where
  kind_is : slice_index_or schema i type.Long ≡ f
  kind_is = ap (λ (fs : Fields). slice_index_or fs i type.Long) (sym same) ∙ kind

  -- the field is read at its place
  value_is : field i (tuple_of schema seen) ≡ first_value f (drop (start_of (take i schema) seen) seen)
  value_is = tuple_at schema seen i type.Long low ∙ ap (λ (g : FieldType). first_value g (drop (start_of (take i schema) seen) seen)) kind_is

  place_is : (place : Place) → place ≡ place_of schema seen i → place ≡ place_in f (start_of (take i schema) seen) seen
  place_is place found = found ∙ ap (λ (g : FieldType). place_in g (start_of (take i schema) seen) seen) kind_is

pub long_text : (fields schema : Fields) (seen : List ℕ) (i : ℕ) (place : Place) → fields ≡ schema → i < length schema → slice_index_or fields i type.Long ≡ type.Long → place ≡ place_of schema seen i
    → signed_decimal (cast_signed w64 (from_be_bytes w64 (take 8 (drop place.start seen)))) ≡ value_text (field i (tuple_of schema seen))
long_text fields schema seen i place same low kind found =
    let start : place.start ≡ start_of (take i schema) seen = ap (λ (p : Place). p.start) (place_is fields schema seen i type.Long same low kind place found) in
    ap (λ (k : ℕ). signed_decimal (cast_signed w64 (from_be_bytes w64 (take 8 (drop k seen))))) start
    ∙ sym (ap value_text (value_is fields schema seen i type.Long same low kind))

first_at : (k : ℕ) (xs : List ℕ) → slice_index xs k ≡ slice_index (drop k xs) 0
first_at zero [] = refl
first_at zero (x ∷ xs) = refl
first_at (suc k) [] = refl
first_at (suc k) (x ∷ xs) = first_at k xs

pub flag_text : (fields schema : Fields) (seen : List ℕ) (i : ℕ) (place : Place) (byte : ℕ) → fields ≡ schema → i < length schema → slice_index_or fields i type.Long ≡ type.Bool → place ≡ place_of schema seen i
    → byte ≡ slice_index seen place.start → bool_text (not (byte == 0)) ≡ value_text (field i (tuple_of schema seen))
flag_text fields schema seen i place byte same low kind found read =
    let start : place.start ≡ start_of (take i schema) seen = ap (λ (p : Place). p.start) (place_is fields schema seen i type.Bool same low kind place found) in
    ap (λ (b : ℕ). bool_text (not (b == 0))) (read ∙ ap (slice_index seen) start ∙ first_at (start_of (take i schema) seen) seen)
    ∙ sym (ap value_text (value_is fields schema seen i type.Bool same low kind))

pub span_text : (fields schema : Fields) (seen : List ℕ) (i bound : ℕ) (place : Place) → fields ≡ schema → i < length schema → slice_index_or fields i type.Long ≡ type.Str bound
    → take place.len (drop place.start seen) ≡ content (field i (tuple_of schema seen))
    → take (place.start + place.len - place.start) (drop place.start seen) ≡ value_text (field i (tuple_of schema seen))
span_text fields schema seen i bound place same low kind bytes =
    let count : place.start + place.len - place.start ≡ place.len = omega arith in
    let is = value_is fields schema seen i (type.Str bound) same low kind in
    ap (λ (n : ℕ). take n (drop place.start seen)) count ∙ bytes ∙ ap content is ∙ sym (ap value_text is)

-- One text more.
pub texts_more : (t : Tuple) (i : ℕ) (before after : List (List ℕ)) → i < length t → before ≡ map value_text (take i t) → after ≡ before ++ value_text (field i t) ∷ [] → after ≡ map value_text (take (i + 1) t)
texts_more t i before after low done more =
    more ∙ ap (λ texts. texts ++ value_text (field i t) ∷ []) done
    ∙ sym (ap (map value_text) (take_more t i (value.Long (pos 0)) low) ∙ map-append value_text (take i t) (field i t ∷ []))

pub length-tuple_of : (fields : Fields) (bytes : List ℕ) → length (tuple_of fields bytes) ≡ length fields
length-tuple_of [] bytes = refl
length-tuple_of (f ∷ fs) bytes = ap suc (length-tuple_of fs (drop (taken f bytes) bytes))

-- What was added is the field's text.
pub text_added : {T E : Type 0} (answer : Result T E) (before after : List (List ℕ)) (bytes text : List ℕ) → bytes ≡ text → OnOk answer (after ≡ before ++ bytes ∷ []) → OnOk answer (after ≡ before ++ text ∷ [])
text_added answer before after bytes text same added = subst (λ x. OnOk answer (after ≡ before ++ x ∷ [])) same added
