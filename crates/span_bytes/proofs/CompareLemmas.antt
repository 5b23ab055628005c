-- Bytes compared piece by piece.
use Rattle.std.proofs.Common.{◌≡◌, ◌≢◌, ℕ, zero, suc, ◌+◌, ◌-◌, ◌≤◌, ◌⊎◌, inl, inr, List, [], ◌∷◌, length, take, drop, refl, sym, ◌∙◌, ap, arith, length-drop}
use Rattle.std.specs.Cmp.Lexicographic.{slice_cmp}
use Rattle.std.specs.Ordering.{nat_cmp, ordering_then}
use Rattle.std.specs.declared.cmp.Ordering.{Ordering}
use Rattle.std.specs.declared.cmp.Ordering.TheVariants.{Less, Equal, Greater}
use Rattle.std.proofs.lemmas.Bool.Decides.{nat_tests}
use Rattle.std.proofs.lemmas.List.{drop_all, drop-take, drop-drop}

-- a front of the first n is a front of all
pub take_front : (n m : ℕ) (xs : List ℕ) → n ≤ m → take n (take m xs) ≡ take n xs
take_front zero m xs low = refl
take_front (suc n) zero xs low = absurd (omega arith)
take_front (suc n) (suc m) [] low = refl
take_front (suc n) (suc m) (x ∷ xs) low = ap (λ (ys : List ℕ). x ∷ ys) (take_front n m xs (omega arith))

-- what was taken is as many bytes as it has
pub take_own : (n : ℕ) (xs : List ℕ) → take (length (take n xs)) xs ≡ take n xs
take_own zero xs = refl
take_own (suc n) [] = refl
take_own (suc n) (x ∷ xs) = ap (λ (ys : List ℕ). x ∷ ys) (take_own n xs)

drop_of_take : (from len : ℕ) (xs : List ℕ) → from ≤ len → drop from (take len xs) ≡ take (len - from) (drop from xs)
drop_of_take from len xs low =
    let e : from + (len - from) ≡ len = omega arith in
    ap (λ (n : ℕ). drop from (take n xs)) (sym e) ∙ drop-take from (len - from) xs

own_le : (n : ℕ) (xs : List ℕ) → length (take n xs) ≤ n
own_le zero xs = omega arith
own_le (suc n) [] = omega arith
own_le (suc n) (x ∷ xs) = omega (arith, own_le n xs)

-- a piece of a text's first bytes, from a place on
pub piece_of : (from len n : ℕ) (xs : List ℕ) → from ≤ len → n ≤ len - from
    → take n (drop from xs) ≡ take (length (take n (drop from xs))) (drop from (take len xs))
piece_of from len n xs inside low =
    sym (take_own n (drop from xs))
    ∙ sym (take_front (length (take n (drop from xs))) (len - from) (drop from xs) (omega (arith, own_le n (drop from xs))))
    ∙ ap (take (length (take n (drop from xs)))) (sym (drop_of_take from len xs inside))

-- the same of bytes that lie from a place on, by a longer piece
pub piece_at : (start from len n : ℕ) (seen piece : List ℕ) → piece ≡ take (length piece) (drop (start + from) seen)
    → from ≤ len → n ≤ len - from → n ≤ length piece
    → take n piece ≡ take (length (take n piece)) (drop from (take len (drop start seen)))
piece_at start from len n seen piece is inside low short =
    let at : drop (start + from) seen ≡ drop from (drop start seen) =
    let e : start + from ≡ from + start = omega arith in ap (λ (k : ℕ). drop k seen) e ∙ sym (drop_twice from start seen) in
    let same : take n piece ≡ take n (drop from (drop start seen)) =
    ap (take n) is ∙ take_front n (length piece) (drop (start + from) seen) short ∙ ap (take n) at in
    same ∙ piece_of from len n (drop start seen) inside low
    ∙ ap (λ (xs : List ℕ). take (length xs) (drop from (take len (drop start seen)))) (sym same)
  where
    drop_twice : (m k : ℕ) (xs : List ℕ) → drop m (drop k xs) ≡ drop (m + k) xs
    drop_twice m k xs = drop-drop m k xs ∙ (let e : k + m ≡ m + k = omega arith in ap (λ (j : ℕ). drop j xs) e)

-- where so many bytes were taken there are as many
pub take_reaches : (k : ℕ) (xs : List ℕ) → k ≡ length (take k xs) → k ≤ length xs
take_reaches zero xs e = omega arith
take_reaches (suc k) [] e = cc
take_reaches (suc k) (x ∷ xs) e = omega (arith, take_reaches k xs (let f : k ≡ length (take k xs) = omega (arith, e) in f))

-- fronts of one length decide, and where they are equal what is behind them does
compare_split : (n : ℕ) (xs ys : List ℕ) → n ≤ length xs → n ≤ length ys
    → slice_cmp nat_cmp xs ys ≡ ordering_then (slice_cmp nat_cmp (take n xs) (take n ys)) (slice_cmp nat_cmp (drop n xs) (drop n ys))
compare_split zero xs ys left right = refl
compare_split (suc n) [] ys left right = absurd (omega arith)
compare_split (suc n) (x ∷ xs) [] left right = absurd (omega arith)
compare_split (suc n) (x ∷ xs) (y ∷ ys) left right =
    ap (ordering_then (nat_cmp x y)) (compare_split n xs ys (omega arith) (omega arith))
    ∙ then_assoc (nat_cmp x y) (slice_cmp nat_cmp (take n xs) (take n ys)) (slice_cmp nat_cmp (drop n xs) (drop n ys))
  where
    then_assoc : (o p q : Ordering) → ordering_then o (ordering_then p q) ≡ ordering_then (ordering_then o p) q
    then_assoc Less p q = refl
    then_assoc Equal p q = refl
    then_assoc Greater p q = refl

module _ (a b left right : List ℕ) (at n : ℕ)
    (left_is : left ≡ take (length left) (drop at a)) (right_is : right ≡ take (length right) (drop at b))
    (short : n ≤ length left) (low : n ≤ length right) where
  front : take n left ≡ take n (drop at a)
  front = ap (take n) left_is ∙ take_front n (length left) (drop at a) short

  other : take n right ≡ take n (drop at b)
  other = ap (take n) right_is ∙ take_front n (length right) (drop at b) low

  long : (xs ys : List ℕ) → xs ≡ take (length xs) ys → n ≤ length xs → n ≤ length ys
  long xs ys is h = omega (arith, h, take_reaches (length xs) ys (ap length is))

  split : slice_cmp nat_cmp (drop at a) (drop at b)
      ≡ ordering_then (slice_cmp nat_cmp (take n left) (take n right)) (slice_cmp nat_cmp (drop n (drop at a)) (drop n (drop at b)))
  split =
      compare_split n (drop at a) (drop at b) (long left (drop at a) left_is short) (long right (drop at b) right_is low)
      ∙ ap (λ (xs : List ℕ). ordering_then (slice_cmp nat_cmp xs (take n (drop at b))) (slice_cmp nat_cmp (drop n (drop at a)) (drop n (drop at b)))) (sym front)
      ∙ ap (λ (ys : List ℕ). ordering_then (slice_cmp nat_cmp (take n left) ys) (slice_cmp nat_cmp (drop n (drop at a)) (drop n (drop at b)))) (sym other)

  -- equal pieces are passed over
  pub compare_more : slice_cmp nat_cmp (take n left) (take n right) ≡ Equal
      → slice_cmp nat_cmp (drop at a) (drop at b) ≡ slice_cmp nat_cmp (drop (at + n) a) (drop (at + n) b)
  compare_more same =
      split
      ∙ ap (λ (o : Ordering). ordering_then o (slice_cmp nat_cmp (drop n (drop at a)) (drop n (drop at b)))) same
      ∙ ap (λ (xs : List ℕ). slice_cmp nat_cmp xs (drop n (drop at b))) (drop-drop n at a)
      ∙ ap (λ (ys : List ℕ). slice_cmp nat_cmp (drop (at + n) a) ys) (drop-drop n at b)

  -- pieces that differ decide
  pub compare_found : (o : Ordering) → slice_cmp nat_cmp (take n left) (take n right) ≡ o → o ≢ Equal
      → slice_cmp nat_cmp (drop at a) (drop at b) ≡ o
  compare_found Less is differ = split ∙ ap (λ (o : Ordering). ordering_then o (slice_cmp nat_cmp (drop n (drop at a)) (drop n (drop at b)))) is
  compare_found Equal is differ = absurd (differ refl)
  compare_found Greater is differ = split ∙ ap (λ (o : Ordering). ordering_then o (slice_cmp nat_cmp (drop n (drop at a)) (drop n (drop at b)))) is

-- at the end of the shorter list the lengths decide
cmp_left : (ys : List ℕ) → slice_cmp nat_cmp [] ys ≡ nat_cmp 0 (length ys)
cmp_left [] = refl
cmp_left (y ∷ ys) = grind (arith, nat_tests)

cmp_right : (xs : List ℕ) → slice_cmp nat_cmp xs [] ≡ nat_cmp (length xs) 0
cmp_right [] = refl
cmp_right (x ∷ xs) = grind (arith, nat_tests)

slice_cmp_done : (xs ys : List ℕ) (i : ℕ) → i ≤ length xs → i ≤ length ys → (length xs ≤ i) ⊎ (length ys ≤ i) → nat_cmp (length xs) (length ys) ≡ slice_cmp nat_cmp (drop i xs) (drop i ys)
slice_cmp_done xs ys i left right (inl short) =
    let e = cmp_left (drop i ys) in
    let n = length-drop i ys in
    rw (drop_all i xs short) (rw e (grind (arith, nat_tests, n)))
slice_cmp_done xs ys i left right (inr short) =
    let e = cmp_right (drop i xs) in
    let n = length-drop i xs in
    rw (drop_all i ys short) (rw e (grind (arith, nat_tests, n)))

-- at the end of the shorter text the lengths decide
pub compare_done : (a b : List ℕ) (at m n : ℕ) (o : Ordering) → length a ≡ m → length b ≡ n → at ≤ m → at ≤ n → (m ≤ at) ⊎ (n ≤ at)
    → slice_cmp nat_cmp a b ≡ slice_cmp nat_cmp (drop at a) (drop at b) → o ≡ nat_cmp m n → o ≡ slice_cmp nat_cmp a b
compare_done a b at m n o left right low short ends same is =
    let at_end : (length a ≤ at) ⊎ (length b ≤ at) = elim ends [ inl h ↦ inl (omega (arith, h, left)) | inr h ↦ inr (omega (arith, h, right)) ] in
    is
    ∙ ap (λ (k : ℕ). nat_cmp k n) (sym left)
    ∙ ap (λ (k : ℕ). nat_cmp (length a) k) (sym right)
    ∙ slice_cmp_done a b at (omega (arith, low, left)) (omega (arith, short, right)) at_end
    ∙ sym same
