-- Steps of decoding.
use Rattle.std.proofs.Common.{◌≡◌, ℕ, ◌+◌, ◌-◌, ◌≤◌, List, ◌++◌, length, take, drop, sym, ◌∙◌, ap, subst, arith, IsUtf8}
use Rattle.std.specs.Int.{from_be_bytes, w16}
use Rattle.std.proofs.lemmas.List.{take-take, take-append-drop, drop-take, drop-drop}
use Rattle.flow_types.specs.declared.value.Value.TheVariants as value
use Rattle.flow_types.specs.declared.field_type.FieldType.{FieldType}
use Rattle.flow_types.specs.declared.field_type.FieldType.TheVariants as type
use Rattle.flow_types.specs.Records.{first_value}
use Rattle.record_codec.specs.Prefixes.{BeginsWith}
use Rattle.record_codec.proofs.PrefixLemmas.{text_parts}

-- a front in two parts
pub take_two : (n m : ℕ) (bytes : List ℕ) → take (n + m) bytes ≡ take n bytes ++ take m (drop n bytes)
take_two n m bytes =
    sym (take-append-drop n (take (n + m) bytes))
    ∙ ap (λ (xs : List ℕ). xs ++ drop n (take (n + m) bytes)) (take-take n (n + m) bytes (omega arith))
    ∙ ap (λ (xs : List ℕ). take n bytes ++ xs) (drop-take n m bytes)

-- the bytes of one piece more were copied
pub copied_more : (seen bytes longer piece : List ℕ) (start at count : ℕ) → start ≤ at → count ≤ length piece
    → piece ≡ take (length piece) (drop at seen) → bytes ≡ take (at - start) (drop start seen)
    → longer ≡ bytes ++ take count piece → longer ≡ take (at + count - start) (drop start seen)
copied_more seen bytes longer piece start at count began short is same more =
    let n : ℕ = at - start in
    let there : start + n ≡ at = omega arith in
    let counts : n + count ≡ at + count - start = omega arith in
    more
    ∙ ap (λ (xs : List ℕ). xs ++ take count piece) same
    ∙ ap (λ (xs : List ℕ). take n (drop start seen) ++ xs)
    (ap (take count) is
    ∙ take-take count (length piece) (drop at seen) short
    ∙ ap (λ (k : ℕ). take count (drop k seen)) (sym there)
    ∙ ap (take count) (sym (drop-drop n start seen)))
    ∙ sym (take_two n count (drop start seen))
    ∙ ap (λ (k : ℕ). take k (drop start seen)) counts

-- a text that stands from a place on is UTF-8
pub text_utf8 : (bound start len : ℕ) (seen : List ℕ) (f : FieldType) → f ≡ type.Str bound
    → len ≡ from_be_bytes w16 (take 2 (drop start seen)) → BeginsWith f (drop start seen) → IsUtf8 (take len (drop (start + 2) seen))
text_utf8 bound start len seen f is same begins =
    let bytes : List ℕ = drop start seen in
    let parts : IsUtf8 (take (from_be_bytes w16 (take 2 bytes)) (drop 2 bytes)) =
    (text_parts bound bytes (subst (λ (g : FieldType). BeginsWith g bytes) is begins)).utf8 in
    subst IsUtf8 (ap (λ (n : ℕ). take n (drop 2 bytes)) (sym same) ∙ ap (take len) (drop-drop 2 start seen)) parts

-- the text that stands from a place on is the value there
pub text_value : (bound start len : ℕ) (seen text : List ℕ) (f : FieldType) → f ≡ type.Str bound
    → len ≡ from_be_bytes w16 (take 2 (drop start seen)) → text ≡ take len (drop (start + 2) seen)
    → value.Str text ≡ first_value f (drop start seen)
text_value bound start len seen text f is same read =
    let bytes : List ℕ = drop start seen in
    ap (λ (xs : List ℕ). value.Str xs)
    (read ∙ ap (take len) (sym (drop-drop 2 start seen)) ∙ ap (λ (n : ℕ). take n (drop 2 bytes)) same)
    ∙ ap (λ (g : FieldType). first_value g bytes) (sym is)
