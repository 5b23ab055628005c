-- Fields where they lie.
use Rattle.std.proofs.Common.{◌≡◌, ℕ, zero, suc, ◌+◌, ◌-◌, ◌<◌, ◌≤◌, List, [], ◌∷◌, ◌++◌, length, take, drop, slice_index_or, refl, sym, ◌∙◌, ap, arith, not, ◌==◌, slice_index}
use Rattle.std.specs.Int.{from_be_bytes, w16}
use Rattle.std.proofs.lemmas.List.{drop-drop}
use Rattle.flow_types.specs.declared.value.Value.TheVariants as value
use Rattle.flow_types.specs.declared.field_type.FieldType.{FieldType}
use Rattle.flow_types.specs.declared.field_type.FieldType.TheVariants as type
use Rattle.flow_types.specs.Tuples.{Tuple, field}
use Rattle.flow_types.specs.Types.{Fields}
use Rattle.flow_types.specs.Records.{first_value, taken, tuple_of}
use Rattle.record_codec.specs.declared.place.Place.{Place}
use Rattle.record_codec.specs.Places.{place_in, place_of, start_of}
use Rattle.record_codec.proofs.PlaceLemmas.{tuple_at}
use Rattle.expr_core.specs.Places.{value_at}

pub length-tuple_of : (fields : Fields) (bytes : List ℕ) → length (tuple_of fields bytes) ≡ length fields
length-tuple_of [] bytes = refl
length-tuple_of (f ∷ fs) bytes = ap suc (length-tuple_of fs (drop (taken f bytes) bytes))

-- a field past the end is the Long 0
pub field-past : (t : Tuple) (k : ℕ) → length t ≤ k → field k t ≡ value.Long (Rattle.std.proofs.Common.pos 0)
field-past [] k past = refl
field-past (v ∷ t) zero past = absurd (omega arith)
field-past (v ∷ t) (suc k) past = field-past t k (omega arith)

-- a field of one tuple followed by another
pub field-left : (t u : Tuple) (k : ℕ) → k < length t → field k (t ++ u) ≡ field k t
field-left [] u k low = absurd (omega arith)
field-left (v ∷ t) u zero low = refl
field-left (v ∷ t) u (suc k) low = field-left t u k (omega arith)

pub field-right : (t u : Tuple) (k : ℕ) → field (length t + k) (t ++ u) ≡ field k u
field-right [] u k = ap (λ (n : ℕ). field n u) (omega arith)
field-right (v ∷ t) u k =
    let e : length (v ∷ t) + k ≡ suc (length t + k) = omega arith in
    ap (λ (n : ℕ). field n (v ∷ (t ++ u))) e ∙ field-right t u k

-- what lies at a field's place is the value that the bytes from there are read as
place_value : (f : FieldType) (start : ℕ) (bytes : List ℕ) → value_at f (place_in f start bytes) bytes ≡ first_value f (drop start bytes)
place_value type.Long start bytes = refl
place_value type.Bool start bytes = ap (λ (n : ℕ). value.Bool (not (n == 0))) (first_at start bytes)
  where
    first_at : (k : ℕ) (xs : List ℕ) → slice_index xs k ≡ slice_index (drop k xs) 0
    first_at zero [] = refl
    first_at zero (x ∷ xs) = refl
    first_at (suc k) [] = refl
    first_at (suc k) (x ∷ xs) = first_at k xs
place_value (type.Str bound) start bytes =
    ap (λ (xs : List ℕ). value.Str (take (from_be_bytes w16 (take 2 (drop start bytes))) xs)) (sym (drop-drop 2 start bytes))

pub field_value : (fields : Fields) (bytes : List ℕ) (k : ℕ) (place : Place) (f : FieldType) → k < length fields
    → slice_index_or fields k type.Long ≡ f → place ≡ place_of fields bytes k
    → value_at f place bytes ≡ field k (tuple_of fields bytes)
field_value fields bytes k place f low kind found =
    let start : ℕ = start_of (take k fields) bytes in
    ap (λ (g : FieldType). value_at g place bytes) (sym kind)
    ∙ ap (λ (p : Place). value_at (slice_index_or fields k type.Long) p bytes) found
    ∙ place_value (slice_index_or fields k type.Long) start bytes
    ∙ sym (tuple_at fields bytes k type.Long low)
