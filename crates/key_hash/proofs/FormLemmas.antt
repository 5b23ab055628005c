-- Where the forms of fields stand in a record.
use Rattle.std.proofs.Common.{◌≡◌, ℕ, zero, suc, ◌+◌, ◌-◌, ◌<◌, ◌≤◌, List, [], ◌∷◌, ◌++◌, length, take, drop, slice_index_or, refl, sym, ap, ◌∙◌, subst, arith, pos, ◌⊎◌, inl, inr}
use Rattle.std.specs.Int.{to_be_bytes, from_be_bytes, w16}
use Rattle.std.proofs.lemmas.List.{take_at, drop-drop}
use Rattle.flow_types.specs.declared.value.Value.TheVariants as value
use Rattle.flow_types.specs.declared.field_type.FieldType.{FieldType}
use Rattle.flow_types.specs.declared.field_type.FieldType.TheVariants as type
use Rattle.flow_types.specs.Tuples.{field}
use Rattle.flow_types.specs.Types.{Fields}
use Rattle.flow_types.specs.Records.{value_form, first_value, taken, tuple_of, IsRecord}
use Rattle.record_codec.specs.declared.place.Place.{Place}
use Rattle.record_codec.specs.Prefixes.{BeginsWith}
use Rattle.record_codec.specs.Places.{place_in, place_of, start_of}
use Rattle.record_codec.proofs.PlaceLemmas.{tuple_at}
use Rattle.record_codec.proofs.PrefixLemmas.{record_begins, record_behind, text_length}

-- a field past the end is the Long 0
pub field_past : (fields : Fields) (bytes : List ℕ) (i : ℕ) → length fields ≤ i → field i (tuple_of fields bytes) ≡ value.Long (pos 0)
field_past [] bytes i past = refl
field_past (f ∷ fs) bytes zero past = absurd (omega arith)
field_past (f ∷ fs) bytes (suc i) past = field_past fs (drop (taken f bytes) bytes) i (omega arith)

-- a field of a record begins behind those before it
field_begins : (fields : Fields) (seen : List ℕ) (i : ℕ) → IsRecord fields seen → i < length fields
    → BeginsWith (slice_index_or fields i type.Long) (drop (start_of (take i fields) seen) seen)
field_begins [] seen i is inside = absurd (omega arith)
field_begins (f ∷ fs) seen zero is inside = record_begins f fs seen is
field_begins (f ∷ fs) seen (suc i) is inside =
    let rest : List ℕ = drop (taken f seen) seen in
    let behind : IsRecord fs rest = (record_behind f fs seen (record_begins f fs seen is)).0 is in
    subst (BeginsWith (slice_index_or fs i type.Long)) (drop-drop (start_of (take i fs) rest) (taken f seen) seen)
    (field_begins fs rest i behind (omega arith))

-- what a field takes of the bytes that begin with it is its value's form
taken_form : (f : FieldType) (bytes : List ℕ) → BeginsWith f bytes → take (taken f bytes) bytes ≡ value_form (first_value f bytes)
taken_form type.Long bytes begins = ap (take 8) begins.formed
taken_form type.Bool bytes begins = ap (take 1) begins.formed
taken_form (type.Str bound) bytes begins =
    let n : ℕ = from_be_bytes w16 (take 2 bytes) in
    let s : List ℕ = take n (drop 2 bytes) in
    let rest : List ℕ = drop (2 + n) bytes in
    let same : n ≡ length s = text_length bytes s rest begins.value begins.formed in
    let form : List ℕ = to_be_bytes w16 (length s) ++ s in
    let long : length form ≡ 2 + n = omega (arith, same) in
    ap (take (2 + n)) begins.formed ∙ take_at form rest (2 + n) long

-- where the form of a field begins whose content lies at a place
abbrev pub form_start : FieldType → Place → ℕ
form_start type.Long place = place.start
form_start type.Bool place = place.start
form_start (type.Str bound) place = place.start - 2

-- the bytes of a form, by the place of the content
place_form : (f : FieldType) (start : ℕ) (seen : List ℕ) (place : Place) → place ≡ place_in f start seen
    → take (place.start + place.len - form_start f place) (drop (form_start f place) seen) ≡ take (taken f (drop start seen)) (drop start seen)
place_form type.Long start seen place found =
    let from : place.start ≡ start = ap (λ (p : Place). p.start) found in
    let long : place.len ≡ 8 = ap (λ (p : Place). p.len) found in
    let count : place.start + place.len - place.start ≡ 8 = omega arith in
    ap (λ (n : ℕ). take n (drop place.start seen)) count ∙ ap (λ (k : ℕ). take 8 (drop k seen)) from
place_form type.Bool start seen place found =
    let from : place.start ≡ start = ap (λ (p : Place). p.start) found in
    let long : place.len ≡ 1 = ap (λ (p : Place). p.len) found in
    let count : place.start + place.len - place.start ≡ 1 = omega arith in
    ap (λ (n : ℕ). take n (drop place.start seen)) count ∙ ap (λ (k : ℕ). take 1 (drop k seen)) from
place_form (type.Str bound) start seen place found =
    let n : ℕ = from_be_bytes w16 (take 2 (drop start seen)) in
    let behind : place.start ≡ start + 2 = ap (λ (p : Place). p.start) found in
    let long : place.len ≡ n = ap (λ (p : Place). p.len) found in
    let from : place.start - 2 ≡ start = omega arith in
    let count : place.start + place.len - (place.start - 2) ≡ 2 + n = omega arith in
    ap (λ (k : ℕ). take k (drop (place.start - 2) seen)) count ∙ ap (λ (k : ℕ). take (2 + n) (drop k seen)) from

-- a field's form, by the place of its content
pub field_form : (fields schema : Fields) (seen : List ℕ) (i : ℕ) (place : Place) (f : FieldType) → fields ≡ schema
    → IsRecord schema seen → i < length fields → slice_index_or fields i type.Long ≡ f → place ≡ place_of schema seen i
    → take (place.start + place.len - form_start f place) (drop (form_start f place) seen) ≡ value_form (field i (tuple_of schema seen))
field_form fields schema seen i place f same is low kind found =
    let start : ℕ = start_of (take i schema) seen in
    let g : FieldType = slice_index_or schema i type.Long in
    let inside : i < length schema = omega (arith, ap length same) in
    let kind_is : f ≡ g = sym kind ∙ ap (λ (fs : Fields). slice_index_or fs i type.Long) same in
    ap (λ (h : FieldType). take (place.start + place.len - form_start h place) (drop (form_start h place) seen)) kind_is
    ∙ place_form g start seen place found
    ∙ taken_form g (drop start seen) (field_begins schema seen i is inside)
    ∙ ap value_form (sym (tuple_at schema seen i type.Long inside))

-- that of a Long or a Bool is its content
pub plain_form : (fields schema : Fields) (seen : List ℕ) (i : ℕ) (place : Place) → fields ≡ schema → IsRecord schema seen
    → i < length fields → (slice_index_or fields i type.Long ≡ type.Long) ⊎ (slice_index_or fields i type.Long ≡ type.Bool)
    → place ≡ place_of schema seen i
    → take (place.start + place.len - place.start) (drop place.start seen) ≡ value_form (field i (tuple_of schema seen))
plain_form fields schema seen i place same is low (inl long) found = field_form fields schema seen i place type.Long same is low long found
plain_form fields schema seen i place same is low (inr flag) found = field_form fields schema seen i place type.Bool same is low flag found
