-- UTF-8 in pieces.
use Rattle.std.proofs.Common.{◌≡◌, ℕ, ◌+◌, ◌-◌, ◌<◌, ◌≤◌, min, true, List, [], ◌∷◌, ◌++◌, length, take, drop, slice_index, slice_set, sym, ◌∙◌, ap, subst, arith, length-append, length-drop, ◌↔◌, IsUtf8}
use Rattle.std.specs.Char.{encode_utf8, len_utf8}
use Rattle.std.specs.Str.{encode_utf8_all, all_scalars}
use Rattle.std.proofs.lemmas.Bool.{and_parts}
use Rattle.std.proofs.lemmas.List.{take-take, take_at, take-append-drop, drop-take, drop-drop, length-take-le, take_more, take_more_set, get_or-drop}
use Rattle.std.proofs.lemmas.Str.{IsUtf8-append, IsUtf8-drop, IsUtf8-encode, IsCharBoundary-from_take, length-encode, len_utf8_bounds}
use lib.Utf8.{scalar}

-- one byte more of those that were put together
pub front_more : (front seen : List ℕ) (at i y : ℕ) → i < length front → at + i < length seen
    → take i front ≡ take i (drop at seen) → y ≡ slice_index seen (at + i)
    → take (i + 1) (slice_set front i y) ≡ take (i + 1) (drop at seen)
front_more front seen at i y short inside same is =
    let there : i < length (drop at seen) = omega (arith, length-drop at seen) in
    take_more_set front i y short
    ∙ ap (λ (xs : List ℕ). xs ++ y ∷ []) same
    ∙ ap (λ (z : ℕ). take i (drop at seen) ++ z ∷ []) (is ∙ sym (get_or-drop at seen i 0))
    ∙ sym (take_more (drop at seen) i 0 there)

-- behind a front that is UTF-8 the rest is UTF-8 exactly where the whole is
pub utf8_behind : (bs : List ℕ) (n : ℕ) → n ≤ length bs → IsUtf8 (take n bs) → IsUtf8 bs ↔ IsUtf8 (drop n bs)
utf8_behind bs n short front = (
  (λ whole. IsUtf8-drop bs n whole (IsCharBoundary-from_take bs n whole short front)),
  (λ back. subst IsUtf8 (take-append-drop n bs) (IsUtf8-append (take n bs) (drop n bs) front back)),
)

-- the same of bytes from a place to an end
pub text_behind : (seen : List ℕ) (at n end : ℕ) → at + n ≤ end → end ≤ length seen → IsUtf8 (take n (drop at seen))
    → IsUtf8 (take (end - at) (drop at seen)) ↔ IsUtf8 (take (end - (at + n)) (drop (at + n) seen))
text_behind seen at n end order inside front =
    let rest : List ℕ = drop at seen in
    let there : end - at ≤ length rest = omega (arith, length-drop at seen) in
    let long : length (take (end - at) rest) ≡ end - at = length-take-le (end - at) rest there in
    let taken : take n (take (end - at) rest) ≡ take n rest = take-take n (end - at) rest (omega arith) in
    let split : end - at ≡ n + (end - (at + n)) = omega arith in
    let behind : drop n (take (end - at) rest) ≡ take (end - (at + n)) (drop (at + n) seen) =
    ap (λ (m : ℕ). drop n (take m rest)) split
    ∙ drop-take n (end - (at + n)) rest
    ∙ ap (take (end - (at + n))) (drop-drop n at seen) in
    subst (λ (bs : List ℕ). IsUtf8 (take (end - at) rest) ↔ IsUtf8 bs) behind
    (utf8_behind (take (end - at) rest) n (omega arith) (subst IsUtf8 (sym taken) front))

-- a front of one to four bytes is UTF-8
abbrev pub HasChar : List ℕ → Type 0
HasChar bs = (n : ℕ) × (0 < n) × (n ≤ 4) × (n ≤ length bs) × IsUtf8 (take n bs)

-- UTF-8 that isn't empty begins with a character
pub first_char : (cs bs : List ℕ) → all_scalars cs ≡ true → encode_utf8_all cs ≡ bs → 0 < length bs → HasChar bs
first_char [] bs ok same some = absurd (omega (arith, ap length same))
first_char (c ∷ cs) bs ok same some =
    let n : ℕ = len_utf8 c in
    let long : length (encode_utf8 c) ≡ n = length-encode c in
    let bounds : (1 ≤ n) × (n ≤ 4) = len_utf8_bounds c in
    let front : take n bs ≡ encode_utf8 c =
    ap (take n) (sym same) ∙ take_at (encode_utf8 c) (encode_utf8_all cs) n long in (
      n,
      omega arith,
      omega arith,
      omega (arith, ap length same, length-append (encode_utf8 c) (encode_utf8_all cs)),
      subst IsUtf8 (sym front) (IsUtf8-encode c (and_parts (scalar c) (all_scalars cs) ok).0),
    )

-- no character begins within four bytes that were put together, so none begins
pub no_char : (seen : List ℕ) (at end done count : ℕ) (front : List ℕ) → at < end → end ≤ length seen
    → done ≡ count → count ≡ min (end - at) 4 → take done front ≡ take done (drop at seen)
    → ((n : ℕ) → 0 < n → n ≤ length (take count front) → ¬ IsUtf8 (take n (take count front)))
    → ¬ IsUtf8 (take (end - at) (drop at seen))
no_char seen at end done count front order inside over counted same none whole =
    let rest : List ℕ = drop at seen in
    let there : end - at ≤ length rest = omega (arith, length-drop at seen) in
    let long : length (take (end - at) rest) ≡ end - at = length-take-le (end - at) rest there in
    let first : HasChar (take (end - at) rest) =
    first_char whole.0 (take (end - at) rest) whole.1.0 whole.1.1 (omega arith) in
    let n : ℕ = first.0 in
    let gathered : take count front ≡ take count rest =
    subst (λ (k : ℕ). take k front ≡ take k rest) over same in
    let full : length (take count front) ≡ count = ap length gathered ∙ length-take-le count rest (omega arith) in
    let taken : take n (take count front) ≡ take n (take (end - at) rest) =
    ap (take n) gathered
    ∙ take-take n count rest (omega arith)
    ∙ sym (take-take n (end - at) rest (omega arith)) in
    none n first.1 (omega arith) (subst IsUtf8 (sym taken) first.4)
