-- Lemmas on bytes that lie in several pieces.
use Rattle.std.proofs.Common.{◌≡◌, ℕ, ◌+◌, ◌-◌, ◌<◌, List, ◌++◌, length, take, drop, get_or, refl, sym, ap, ◌∙◌, arith, take-append-drop}
use Rattle.std.proofs.lemmas.List.{length-drop, take_at, take_rest, drop_at, drop-append-le, drop-drop, drop_more}
use Rattle.std.proofs.lemmas.Grind.{flat_map-append}
use Rattle.std.specs.List.{flat_map}

-- a place behind a list's end, in what stands behind it
pub drop-past : (front back : List ℕ) (n : ℕ) → drop (length front + n) (front ++ back) ≡ drop n back
drop-past front back n =
    sym (drop-drop n (length front) (front ++ back)) ∙ ap (drop n) (drop_at front back (length front) refl)

-- joined pieces, at one of them
pub flat_map-at : {X : Type 0} (f : X → List ℕ) (xs : List X) (i : ℕ) (x : X) → i < length xs → x ≡ get_or xs i x → flat_map f xs ≡ flat_map f (take i xs) ++ (f x ++ flat_map f (drop (i + 1) xs))
flat_map-at f xs i x among is =
    ap (flat_map f) (sym (take-append-drop i xs)) ∙ flat_map-append f (take i xs) (drop i xs) ∙ ap (λ ys. flat_map f (take i xs) ++ flat_map f ys) (drop_more xs i x among) ∙ ap (λ y. flat_map f (take i xs) ++ (f y ++ flat_map f (drop (i + 1) xs))) (sym is)

-- the rest of a piece is what stands there in the whole
pub found : {X : Type 0} (f : X → List ℕ) (xs : List X) (i left from : ℕ) (x : X) (bytes : List ℕ) → i < length xs → x ≡ get_or xs i x → bytes ≡ f x → from ≡ length (flat_map f (take i xs)) + left → left < length bytes → let piece : List ℕ = take (length bytes - left) (drop left bytes) in (0 < length piece) × (piece ≡ take (length piece) (drop from (flat_map f xs)))
found f xs i left from x bytes among is reads place within =
    let piece : List ℕ = take (length bytes - left) (drop left bytes) in
    let rest = flat_map f (drop (i + 1) xs) in
    let front = flat_map f (take i xs) in
    let e : piece ≡ drop left bytes = take_rest bytes left in
    let some : 0 < length piece = omega (arith, ap length e, length-drop left bytes) in
    let all : flat_map f xs ≡ front ++ (bytes ++ rest) = flat_map-at f xs i x among is ∙ ap (λ ys. front ++ (ys ++ rest)) (sym reads) in
    let there : drop from (flat_map f xs) ≡ piece ++ rest = ap (λ n. drop n (flat_map f xs)) place ∙ ap (drop (length front + left)) all ∙ drop-past front (bytes ++ rest) left ∙ drop-append-le left bytes rest (omega arith) ∙ ap (λ ys. ys ++ rest) (sym e) in
    (some, sym (ap (take (length piece)) there ∙ take_at piece rest (length piece) refl))
