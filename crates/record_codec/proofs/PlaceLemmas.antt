-- Places of fields.
use Rattle.std.proofs.Common.{◌≡◌, ℕ, zero, suc, ◌+◌, ◌<◌, List, [], ◌∷◌, ◌++◌, length, take, drop, slice_index_or, refl, sym, ◌∙◌, ap, subst, arith, ◌≤◌, length-drop}
use Rattle.std.specs.Prelude.{IsTrue}
use Rattle.std.proofs.lemmas.Bool.{false≢true}
use Rattle.std.proofs.lemmas.List.Sums.{sum_by-cons}
use Rattle.std.specs.Int.{from_be_bytes, w16}
use Rattle.std.proofs.lemmas.List.{take_more, drop-drop}
use Rattle.flow_types.specs.declared.field_type.FieldType.{FieldType}
use Rattle.flow_types.specs.declared.field_type.FieldType.TheVariants as type
use Rattle.flow_types.specs.Tuples.{field}
use Rattle.flow_types.specs.Types.{Fields, width, widest, is_placed}
use Rattle.flow_types.specs.Records.{IsRecord, first_value, taken, tuple_of}
use Rattle.record_codec.specs.Prefixes.{BeginsWith, StandsFrom}
use Rattle.record_codec.proofs.PrefixLemmas.{record_begins, record_behind, first_inside}
use Rattle.record_codec.specs.Places.{start_of, content}

-- one field more
pub start_more : (fs : Fields) (f : FieldType) (bytes : List ℕ) → start_of (fs ++ f ∷ []) bytes ≡ start_of fs bytes + taken f (drop (start_of fs bytes) bytes)
start_more [] f bytes = omega arith
start_more (g ∷ gs) f bytes =
    let rest : List ℕ = drop (taken g bytes) bytes in
    let n : ℕ = start_of gs rest in
    let more : start_of (gs ++ f ∷ []) rest ≡ n + taken f (drop n rest) = start_more gs f rest in
    let moved : taken f (drop n rest) ≡ taken f (drop (taken g bytes + n) bytes) = ap (taken f) (drop-drop n (taken g bytes) bytes) in
    omega arith

pub start_step : (fields : Fields) (seen : List ℕ) (i start end : ℕ) (f : FieldType) → i < length fields
    → slice_index_or fields i f ≡ f → start ≡ start_of (take i fields) seen → StandsFrom f seen start end
    → end ≡ start_of (take (i + 1) fields) seen
start_step fields seen i start end f inside read same stands =
    let front : Fields = take i fields in
    let split : take (i + 1) fields ≡ front ++ f ∷ [] = take_more fields i f inside ∙ ap (λ (x : FieldType). front ++ x ∷ []) read in
    stands.ends
    ∙ ap (λ (n : ℕ). n + taken f (drop n seen)) same
    ∙ sym (start_more front f seen)
    ∙ ap (λ (fs : Fields). start_of fs seen) (sym split)

-- a field of the tuple that bytes are read as, by its place
pub tuple_at : (fields : Fields) (bytes : List ℕ) (i : ℕ) (d : FieldType) → i < length fields
    → field i (tuple_of fields bytes) ≡ first_value (slice_index_or fields i d) (drop (start_of (take i fields) bytes) bytes)
tuple_at [] bytes i d inside = absurd (omega arith)
tuple_at (f ∷ fs) bytes zero d inside = refl
tuple_at (f ∷ fs) bytes (suc i) d inside =
    let rest : List ℕ = drop (taken f bytes) bytes in
    tuple_at fs rest i d (omega arith)
    ∙ ap (first_value (slice_index_or fs i d)) (drop-drop (start_of (take i fs) rest) (taken f bytes) bytes)

-- the content of a text, by its place
pub text_content : (bound start len : ℕ) (seen : List ℕ) (f : FieldType) → f ≡ type.Str bound
    → len ≡ from_be_bytes w16 (take 2 (drop start seen)) → take len (drop (start + 2) seen) ≡ content (first_value f (drop start seen))
text_content bound start len seen f is same =
    ap (λ (n : ℕ). take n (drop (start + 2) seen)) same
    ∙ ap (take (from_be_bytes w16 (take 2 (drop start seen)))) (sym (drop-drop 2 start seen))
    ∙ ap (λ (g : FieldType). content (first_value g (drop start seen))) (sym is)

-- a field's content, by its place
pub field_content : (fields schema : Fields) (seen : List ℕ) (i start at len : ℕ) → fields ≡ schema → i < length schema
    → start ≡ start_of (take i fields) seen
    → take len (drop at seen) ≡ content (first_value (slice_index_or fields i type.Long) (drop start seen))
    → take len (drop at seen) ≡ content (field i (tuple_of schema seen))
field_content fields schema seen i start at len is inside same bytes =
    bytes
    ∙ ap (λ (n : ℕ). content (first_value (slice_index_or fields i type.Long) (drop n seen))) same
    ∙ ap (λ (fs : Fields). content (first_value (slice_index_or fs i type.Long) (drop (start_of (take i fs) seen) seen))) is
    ∙ ap content (sym (tuple_at schema seen i type.Long inside))

-- a field with no text before it begins behind the widths of the fields before it
pub start_placed : (fields : Fields) (i : ℕ) (bytes : List ℕ) → IsTrue (is_placed fields i) → start_of (take i fields) bytes ≡ widest (take i fields)
start_placed [] zero bytes placed = refl
start_placed [] (suc i) bytes placed = refl
start_placed (f ∷ fs) zero bytes placed = refl
start_placed (type.Long ∷ fs) (suc i) bytes placed =
    ap (λ (n : ℕ). 8 + n) (start_placed fs i (drop 8 bytes) placed) ∙ sym (sum_by-cons width type.Long (take i fs))
start_placed (type.Bool ∷ fs) (suc i) bytes placed =
    ap (λ (n : ℕ). 1 + n) (start_placed fs i (drop 1 bytes) placed) ∙ sym (sum_by-cons width type.Bool (take i fs))
start_placed (type.Str b ∷ fs) (suc i) bytes placed = absurd (false≢true placed)

-- a record from the start of one of its fields on is the record of the fields from there on
pub record_from : (fields : Fields) (bytes : List ℕ) (i : ℕ) → i ≤ length fields → IsRecord fields bytes
    → (start_of (take i fields) bytes ≤ length bytes) × IsRecord (drop i fields) (drop (start_of (take i fields) bytes) bytes)
record_from fields bytes zero inside is = (omega arith, is)
record_from [] bytes (suc i) inside is = absurd (omega arith)
record_from (f ∷ fs) bytes (suc i) inside is =
    let begins : BeginsWith f bytes = record_begins f fs bytes is in
    let rest : List ℕ = drop (taken f bytes) bytes in
    let behind = record_from fs rest i (omega arith) ((record_behind f fs bytes begins).0 is) in
    let within : taken f bytes ≤ length bytes = first_inside f bytes begins in (
      omega (arith, behind.0, length-drop (taken f bytes) bytes),
      subst (λ (bs : List ℕ). IsRecord (drop i fs) bs) (drop-drop (start_of (take i fs) rest) (taken f bytes) bytes) behind.1,
    )

pub start_found : (fields : Fields) (bytes : List ℕ) (i start : ℕ) → i < length fields → IsRecord fields bytes
    → IsTrue (is_placed fields i) → start ≡ widest (take i fields)
    → (start ≡ start_of (take i fields) bytes) × (start ≤ length bytes) × IsRecord (drop i fields) (drop start bytes)
start_found fields bytes i start inside is placed at =
    let same : start ≡ start_of (take i fields) bytes = at ∙ sym (start_placed fields i bytes placed) in
    let from = record_from fields bytes i (omega arith) is in
    (same, omega (arith, from.0), subst (λ (n : ℕ). IsRecord (drop i fields) (drop n bytes)) (sym same) from.1)
