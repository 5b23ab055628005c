-- Bytes that decide an order, whatever stands behind them.
use Rattle.std.proofs.Common.{◌≡◌, ℕ, ◌+◌, ◌*◌, ◌<◌, ◌≤◌, ◌^◌, ◌⊎◌, inl, inr, true, false, List, [], ◌∷◌, ◌++◌, length, refl, sym, ◌∙◌, ap, subst, arith}
use Rattle.std.specs.Cmp.{nat_cmp_is}
use Rattle.std.specs.Cmp.Lexicographic.{slice_cmp}
use Rattle.std.specs.Ordering.{nat_cmp, ordering_then}
use Rattle.std.specs.declared.cmp.Ordering.{Ordering}
use Rattle.std.specs.declared.cmp.Ordering.TheVariants.{Less, Equal, Greater}
use Rattle.std.specs.Int.{to_be_bytes, w64}
use Rattle.std.proofs.lemmas.Bool.{cases_order}
use Rattle.std.proofs.lemmas.Nat.{from_be_bytes-to_be_bytes_8}

-- one list is less than another, equal to it or greater, and neither is a proper front of the other
pub data Decides : List ℕ → List ℕ → Ordering → Type 0 where
  ends : Decides [] [] Equal
  same : {x : ℕ} {xs ys : List ℕ} {o : Ordering} → Decides xs ys o → Decides (x ∷ xs) (x ∷ ys) o
  less : {x y : ℕ} {xs ys : List ℕ} → x < y → Decides (x ∷ xs) (y ∷ ys) Less
  more : {x y : ℕ} {xs ys : List ℕ} → y < x → Decides (x ∷ xs) (y ∷ ys) Greater

pub cmp_same : (x : ℕ) → nat_cmp x x ≡ Equal
cmp_same x = sym (nat_cmp_is x x Equal refl)

pub cmp_less : (x y : ℕ) → x < y → nat_cmp x y ≡ Less
cmp_less x y h = sym (nat_cmp_is x y Less h)

pub cmp_more : (x y : ℕ) → y < x → nat_cmp x y ≡ Greater
cmp_more x y h = sym (nat_cmp_is x y Greater h)

then_of : (o q p : Ordering) → o ≡ q → ordering_then o p ≡ ordering_then q p
then_of o q p e = ap (λ (r : Ordering). ordering_then r p) e

-- what stands behind is compared only where the fronts are equal
pub decides_front : {a b : List ℕ} {o : Ordering} (xs ys : List ℕ) → Decides a b o
    → slice_cmp nat_cmp (a ++ xs) (b ++ ys) ≡ ordering_then o (slice_cmp nat_cmp xs ys)
decides_front xs ys Decides.ends = refl
decides_front xs ys (Decides.same {x = x} {xs = a} {ys = b} d) =
    then_of (nat_cmp x x) Equal (slice_cmp nat_cmp (a ++ xs) (b ++ ys)) (cmp_same x) ∙ decides_front xs ys d
decides_front xs ys (Decides.less {x = x} {y = y} {xs = a} {ys = b} h) = then_of (nat_cmp x y) Less (slice_cmp nat_cmp (a ++ xs) (b ++ ys)) (cmp_less x y h)
decides_front xs ys (Decides.more {x = x} {y = y} {xs = a} {ys = b} h) = then_of (nat_cmp x y) Greater (slice_cmp nat_cmp (a ++ xs) (b ++ ys)) (cmp_more x y h)

-- the first bytes decide, or else what stands behind them
pub decides_head : {a b : List ℕ} {p : Ordering} (x y : ℕ) → Decides a b p → Decides (x ∷ a) (y ∷ b) (ordering_then (nat_cmp x y) p)
decides_head {a} {b} {p} x y d = go (cases_order x y)
  where
    go : (x ≡ y) ⊎ ((x < y) ⊎ (y < x)) → Decides (x ∷ a) (y ∷ b) (ordering_then (nat_cmp x y) p)
    go (inl e) =
        subst (λ (z : ℕ). Decides (x ∷ a) (z ∷ b) (ordering_then (nat_cmp x z) p)) e
        (subst (Decides (x ∷ a) (x ∷ b)) (sym (then_of (nat_cmp x x) Equal p (cmp_same x))) (Decides.same d))
    go (inr (inl h)) = subst (Decides (x ∷ a) (y ∷ b)) (sym (then_of (nat_cmp x y) Less p (cmp_less x y h))) (Decides.less h)
    go (inr (inr h)) = subst (Decides (x ∷ a) (y ∷ b)) (sym (then_of (nat_cmp x y) Greater p (cmp_more x y h))) (Decides.more h)

-- ---- bytes

-- each is at most 255
abbrev pub IsLow : List ℕ → Type 0
IsLow [] = Unit {0}
IsLow (x ∷ xs) = (x ≤ 255) × IsLow xs

pub low_append : (xs ys : List ℕ) → IsLow xs → IsLow ys → IsLow (xs ++ ys)
low_append [] ys left right = right
low_append (x ∷ xs) ys (low, left) right = (low, low_append xs ys left right)

-- ---- numbers of as many bytes

-- the number that bytes write behind others, the high one first
abbrev pub number : ℕ → List ℕ → ℕ
number before [] = before
number before (x ∷ xs) = number (before * 256 + x) xs

number_less : (m n : ℕ) (xs ys : List ℕ) → length xs ≡ length ys → IsLow xs → IsLow ys → m < n → number m xs < number n ys
number_less m n [] [] long left right h = h
number_less m n [] (y ∷ ys) long left right h = absurd (omega (arith, long))
number_less m n (x ∷ xs) [] long left right h = absurd (omega (arith, long))
number_less m n (x ∷ xs) (y ∷ ys) long left right h =
    let low : x ≤ 255 = left.0 in
    number_less (m * 256 + x) (n * 256 + y) xs ys (omega (arith, long)) left.1 right.1 (omega arith)

-- the first byte decides, or else those behind it
digits_head : (m x y : ℕ) (xs ys : List ℕ) → length xs ≡ length ys → IsLow xs → IsLow ys
    → Decides xs ys (nat_cmp (number (m * 256 + x) xs) (number (m * 256 + x) ys))
    → (x ≡ y) ⊎ ((x < y) ⊎ (y < x))
    → Decides (x ∷ xs) (y ∷ ys) (nat_cmp (number (m * 256 + x) xs) (number (m * 256 + y) ys))
digits_head m x y xs ys long left right rest (inl e) =
    subst (λ (z : ℕ). Decides (x ∷ xs) (z ∷ ys) (nat_cmp (number (m * 256 + x) xs) (number (m * 256 + z) ys))) e (Decides.same rest)
digits_head m x y xs ys long left right rest (inr (inl h)) =
    let below : number (m * 256 + x) xs < number (m * 256 + y) ys =
    number_less (m * 256 + x) (m * 256 + y) xs ys long left right (omega arith) in
    subst (Decides (x ∷ xs) (y ∷ ys)) (sym (cmp_less (number (m * 256 + x) xs) (number (m * 256 + y) ys) below)) (Decides.less h)
digits_head m x y xs ys long left right rest (inr (inr h)) =
    let above : number (m * 256 + y) ys < number (m * 256 + x) xs =
    number_less (m * 256 + y) (m * 256 + x) ys xs (sym long) right left (omega arith) in
    subst (Decides (x ∷ xs) (y ∷ ys)) (sym (cmp_more (number (m * 256 + x) xs) (number (m * 256 + y) ys) above)) (Decides.more h)

pub digits_decide : (m : ℕ) (xs ys : List ℕ) → length xs ≡ length ys → IsLow xs → IsLow ys → Decides xs ys (nat_cmp (number m xs) (number m ys))
digits_decide m [] [] long left right = subst (Decides [] []) (sym (cmp_same m)) Decides.ends
digits_decide m [] (y ∷ ys) long left right = absurd (omega (arith, long))
digits_decide m (x ∷ xs) [] long left right = absurd (omega (arith, long))
digits_decide m (x ∷ xs) (y ∷ ys) long left right =
    let tails : length xs ≡ length ys = omega (arith, long) in
    digits_head m x y xs ys tails left.1 right.1 (digits_decide (m * 256 + x) xs ys tails left.1 right.1) (cases_order x y)

pub long_low : (n : ℕ) → IsLow (to_be_bytes w64 n)
long_low n = (omega arith, (omega arith, (omega arith, (omega arith, (omega arith, (omega arith, (omega arith, (omega arith, tt))))))))

-- eight bytes write the number that they were made of
pub long_number : (n : ℕ) → n < 2 ^ 64 → number 0 (to_be_bytes w64 n) ≡ n
long_number n small = omega (arith, from_be_bytes-to_be_bytes_8 n small)

-- so eight bytes decide as their numbers do
pub numbers_decide : (m n : ℕ) → m < 2 ^ 64 → n < 2 ^ 64 → Decides (to_be_bytes w64 m) (to_be_bytes w64 n) (nat_cmp m n)
numbers_decide m n one other =
    let same : nat_cmp (number 0 (to_be_bytes w64 m)) (number 0 (to_be_bytes w64 n)) ≡ nat_cmp m n =
    ap (λ (k : ℕ). nat_cmp k (number 0 (to_be_bytes w64 n))) (long_number m one) ∙ ap (nat_cmp m) (long_number n other) in
    subst (Decides (to_be_bytes w64 m) (to_be_bytes w64 n)) same (digits_decide 0 (to_be_bytes w64 m) (to_be_bytes w64 n) refl (long_low m) (long_low n))

then_equal : (o : Ordering) → ordering_then o Equal ≡ o
then_equal Less = refl
then_equal Equal = refl
then_equal Greater = refl

-- and sixteen as two numbers, the first one first
pub two_numbers : (m a n b : ℕ) → m < 2 ^ 64 → a < 2 ^ 64 → n < 2 ^ 64 → b < 2 ^ 64
    → slice_cmp nat_cmp (to_be_bytes w64 m ++ to_be_bytes w64 a) (to_be_bytes w64 n ++ to_be_bytes w64 b) ≡ ordering_then (nat_cmp m n) (nat_cmp a b)
two_numbers m a n b one low other below =
    decides_front (to_be_bytes w64 a) (to_be_bytes w64 b) (numbers_decide m n one other)
    ∙ ap (ordering_then (nat_cmp m n)) (decides_front [] [] (numbers_decide a b low below) ∙ then_equal (nat_cmp a b))
