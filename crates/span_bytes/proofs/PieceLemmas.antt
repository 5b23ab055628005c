-- Bytes in pieces.
use Rattle.std.proofs.Common.{◌≡◌, ℕ, ◌+◌, ◌<◌, ◌≤◌, List, ◌++◌, length, take, drop, sym, ap, ◌∙◌, subst, arith, All, length-drop}
use Rattle.std.proofs.lemmas.List.{length-take, take-take, take_all, take-append-drop, drop-take}
use Rattle.std.proofs.lemmas.List.Elements.{All-append}

-- a front in two parts
pub take_two : (n m : ℕ) (bytes : List ℕ) → take (n + m) bytes ≡ take n bytes ++ take m (drop n bytes)
take_two n m bytes =
    sym (take-append-drop n (take (n + m) bytes))
    ∙ ap (λ (xs : List ℕ). xs ++ drop n (take (n + m) bytes)) (take-take n (n + m) bytes (omega arith))
    ∙ ap (λ (xs : List ℕ). take n bytes ++ xs) (drop-take n m bytes)

-- a piece lies within the bytes
pub piece_within : (seen piece : List ℕ) (at : ℕ) → at ≤ length seen → piece ≡ take (length piece) (drop at seen) → at + length piece ≤ length seen
piece_within seen piece at inside is =
    omega (arith, ap length is, length-take (length piece) (drop at seen), length-drop at seen)

-- one piece more was read
pub read_more : (seen piece : List ℕ) (at : ℕ) → All (λ b. b < 256) (take at seen) → All (λ b. b < 256) piece
    → piece ≡ take (length piece) (drop at seen) → All (λ b. b < 256) (take (at + length piece) seen)
read_more seen piece at before here is =
    subst (λ (xs : List ℕ). All (λ b. b < 256) xs) (ap (λ (xs : List ℕ). take at seen ++ xs) is ∙ sym (take_two at (length piece) seen))
    (All-append (λ b. b < 256) (take at seen) piece before here)

-- all were
pub read_all : (seen : List ℕ) (at : ℕ) → length seen ≤ at → All (λ b. b < 256) (take at seen) → All (λ b. b < 256) seen
read_all seen at past all = subst (λ (xs : List ℕ). All (λ b. b < 256) xs) (take_all at seen past) all
