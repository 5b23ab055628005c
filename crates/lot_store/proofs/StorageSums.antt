-- Sums over a list of which the elements at some places changed.
use Rattle.std.proofs.Common.{◌≡◌, ◌≢◌, inl, inr, ℕ, zero, suc, ◌+◌, ◌<◌, ◌≤◌, List, [], ◌∷◌, length, map, slice_index_or, refl, sym, ap, ◌∙◌, subst, arith, sum_by}
use Rattle.std.proofs.lemmas.Bool.{cases_eq, cases_lt}
use Rattle.std.proofs.lemmas.List.{length-map}
use Rattle.std.proofs.lemmas.List.Sums.{sum_by-cons}
use Rattle.lot_store.specs.Storage.{AreBelow, Differ, IsNoneOf}

-- the number at a place; 0 past the end
abbrev pub at : List ℕ → ℕ → ℕ
at xs i = slice_index_or xs i 0

abbrev pub total : List ℕ → ℕ
total xs = sum_by (λ (n : ℕ). n) xs

-- the list with another number at a place
abbrev pub put : List ℕ → ℕ → ℕ → List ℕ
put [] i n = []
put (x ∷ xs) zero n = n ∷ xs
put (x ∷ xs) (suc i) n = x ∷ put xs i n

length-put : (xs : List ℕ) (i n : ℕ) → length (put xs i n) ≡ length xs
length-put [] i n = refl
length-put (x ∷ xs) zero n = refl
length-put (x ∷ xs) (suc i) n = omega (arith, length-put xs i n)

put_here : (xs : List ℕ) (i n : ℕ) → i < length xs → at (put xs i n) i ≡ n
put_here [] i n low = absurd (omega (arith, low))
put_here (x ∷ xs) zero n low = refl
put_here (x ∷ xs) (suc i) n low = put_here xs i n (omega (arith, low))

put_there : (xs : List ℕ) (i n k : ℕ) → k ≢ i → at (put xs i n) k ≡ at xs k
put_there [] i n k far = refl
put_there (x ∷ xs) zero n zero far = absurd (far refl)
put_there (x ∷ xs) zero n (suc k) far = refl
put_there (x ∷ xs) (suc i) n zero far = refl
put_there (x ∷ xs) (suc i) n (suc k) far = put_there xs i n k (λ is. far (omega (arith, is)))

total_put : (xs : List ℕ) (i n : ℕ) → i < length xs → total (put xs i n) + at xs i ≡ total xs + n
total_put [] i n low = absurd (omega (arith, low))
total_put (x ∷ xs) zero n low = omega (arith, sum_by-cons (λ (k : ℕ). k) x xs, sum_by-cons (λ (k : ℕ). k) n xs)
total_put (x ∷ xs) (suc i) n low =
    omega (arith, sum_by-cons (λ (k : ℕ). k) x xs, sum_by-cons (λ (k : ℕ). k) x (put xs i n), total_put xs i n (omega (arith, low)))

-- the numbers at some places, together
abbrev pub total_at : List ℕ → List ℕ → ℕ
total_at xs [] = 0
total_at xs (i ∷ is) = at xs i + total_at xs is

total_at_put : (xs : List ℕ) (i n : ℕ) (is : List ℕ) → IsNoneOf i is → total_at (put xs i n) is ≡ total_at xs is
total_at_put xs i n [] none = refl
total_at_put xs i n (k ∷ ks) (far, none) =
    omega (arith, put_there xs i n k (λ same. far (sym same)), total_at_put xs i n ks none)

-- lists of numbers that agree everywhere have one sum
same_total : (xs ys : List ℕ) → length ys ≡ length xs → ((k : ℕ) → at ys k ≡ at xs k) → total ys ≡ total xs
same_total [] [] long same = refl
same_total [] (y ∷ ys) long same = absurd (omega (arith, long))
same_total (x ∷ xs) [] long same = absurd (omega (arith, long))
same_total (x ∷ xs) (y ∷ ys) long same =
    omega (arith, sum_by-cons (λ (k : ℕ). k) x xs, sum_by-cons (λ (k : ℕ). k) y ys, same 0, same_total xs ys (omega (arith, long)) (λ k. same (suc k)))

-- A sum is the one at some places and the one outside of them: what changed at these places alone changed the sum by as
-- much.
pub split_total : (is : List ℕ) (xs ys : List ℕ) → Differ is → AreBelow (length xs) is → length ys ≡ length xs → ((k : ℕ) → IsNoneOf k is → at ys k ≡ at xs k)
    → total ys + total_at xs is ≡ total xs + total_at ys is
split_total [] xs ys differ low long same = omega (arith, same_total xs ys long (λ k. same k tt))
split_total (i ∷ is) xs ys (none, differ) (low, lows) long same =
    let n : ℕ = at ys i in
    let zs : List ℕ = put xs i n in
    let rest : total ys + total_at zs is ≡ total zs + total_at ys is =
    split_total is zs ys differ (subst (λ k. AreBelow k is) (sym (length-put xs i n)) lows) (long ∙ sym (length-put xs i n))
    (λ k far. elim (cases_eq k i) [
      | inl here ↦ ap (at ys) here ∙ sym (put_here xs i n low) ∙ ap (at zs) (sym here)
      | inr there ↦ same k (there, far) ∙ sym (put_there xs i n k there)
    ]) in
    omega (arith, rest, total_put xs i n low, total_at_put xs i n is none)

-- What stands outside of some places is no more than the rest.
pub outside_least : (is : List ℕ) (xs : List ℕ) (i : ℕ) → Differ is → AreBelow (length xs) is → i < length xs → IsNoneOf i is → at xs i + total_at xs is ≤ total xs
outside_least [] xs i differ lows low none = least xs i low
  where
    least : (xs : List ℕ) (i : ℕ) → i < length xs → at xs i + 0 ≤ total xs
    least [] i low = absurd (omega (arith, low))
    least (x ∷ xs) zero low = omega (arith, sum_by-cons (λ (k : ℕ). k) x xs)
    least (x ∷ xs) (suc i) low = omega (arith, sum_by-cons (λ (k : ℕ). k) x xs, least xs i (omega (arith, low)))
outside_least (k ∷ ks) xs i (none_k, differ) (low_k, lows) low (far, none) =
    let zs : List ℕ = put xs k 0 in
    let rest : at zs i + total_at zs ks ≤ total zs =
    outside_least ks zs i differ (subst (λ n. AreBelow n ks) (sym (length-put xs k 0)) lows) (omega (arith, low, length-put xs k 0)) none in
    omega (arith, rest, total_put xs k 0 low_k, total_at_put xs k 0 ks none_k, put_there xs k 0 i far)

-- some places have no more than all
pub part_least : (is : List ℕ) (xs : List ℕ) → Differ is → AreBelow (length xs) is → total_at xs is ≤ total xs
part_least [] xs differ lows = omega arith
part_least (k ∷ ks) xs (none_k, differ) (low_k, lows) =
    let zs : List ℕ = put xs k 0 in
    let rest : total_at zs ks ≤ total zs = part_least ks zs differ (subst (λ n. AreBelow n ks) (sym (length-put xs k 0)) lows) in
    omega (arith, rest, total_put xs k 0 low_k, total_at_put xs k 0 ks none_k)

-- The same of lists of other things, by a number of each.
module _ {X : Type 0} where
  abbrev pub picked : List X → List ℕ → X → List X
  picked xs is d = map (λ i. slice_index_or xs i d) is

  at-map : (f : X → ℕ) (xs : List X) (i : ℕ) (d : X) → i < length xs → at (map f xs) i ≡ f (slice_index_or xs i d)
  at-map f [] i d low = absurd (omega (arith, low))
  at-map f (x ∷ xs) zero d low = refl
  at-map f (x ∷ xs) (suc i) d low = at-map f xs i d (omega (arith, low))

  past-map : (f : X → ℕ) (xs : List X) (i : ℕ) → length xs ≤ i → at (map f xs) i ≡ 0
  past-map f [] i past = refl
  past-map f (x ∷ xs) zero past = absurd (omega (arith, past))
  past-map f (x ∷ xs) (suc i) past = past-map f xs i (omega (arith, past))

  total-map : (f : X → ℕ) (xs : List X) → total (map f xs) ≡ sum_by f xs
  total-map f [] = refl
  total-map f (x ∷ xs) = omega (arith, sum_by-cons (λ (k : ℕ). k) (f x) (map f xs), sum_by-cons f x xs, total-map f xs)

  total_at-map : (f : X → ℕ) (xs : List X) (is : List ℕ) (d : X) → AreBelow (length xs) is → total_at (map f xs) is ≡ sum_by f (picked xs is d)
  total_at-map f xs [] d low = refl
  total_at-map f xs (i ∷ is) d (low, lows) =
      omega (arith, at-map f xs i d low, sum_by-cons f (slice_index_or xs i d) (picked xs is d), total_at-map f xs is d lows)

  below-map : (f : X → ℕ) (xs : List X) (is : List ℕ) → AreBelow (length xs) is → AreBelow (length (map f xs)) is
  below-map f xs is lows = subst (λ n. AreBelow n is) (sym (length-map xs f)) lows

  module _ (is : List ℕ) (xs ys : List X) (d : X) (differ : Differ is) (lows : AreBelow (length xs) is) (long : length ys ≡ length xs) where
    -- Of two sums, the second by another number: where these agree outside of some places, the sums differ by as much as those
    -- at these places.
    pub split_sum : (f g : X → ℕ) → ((k : ℕ) → k < length xs → IsNoneOf k is → g (slice_index_or ys k d) ≡ f (slice_index_or xs k d))
        → sum_by g ys + sum_by f (picked xs is d) ≡ sum_by f xs + sum_by g (picked ys is d)
    split_sum f g same =
        let lows_now : AreBelow (length ys) is = subst (λ n. AreBelow n is) (sym long) lows in
        let all : total (map g ys) + total_at (map f xs) is ≡ total (map f xs) + total_at (map g ys) is =
        split_total is (map f xs) (map g ys) differ (below-map f xs is lows) (length-map ys g ∙ long ∙ sym (length-map xs f))
        (λ k far. elim (cases_lt k (length xs)) [
          | inl low ↦ at-map g ys k d (omega (arith, low, long)) ∙ same k low far ∙ sym (at-map f xs k d low)
          | inr past ↦ past-map g ys k (omega (arith, past, long)) ∙ sym (past-map f xs k past)
        ]) in
        omega (arith, all, total-map g ys, total-map f xs, total_at-map f xs is d lows, total_at-map g ys is d lows_now)

  pub outside_sum : (f : X → ℕ) (is : List ℕ) (xs : List X) (d : X) (i : ℕ) → Differ is → AreBelow (length xs) is → i < length xs → IsNoneOf i is
      → f (slice_index_or xs i d) + sum_by f (picked xs is d) ≤ sum_by f xs
  outside_sum f is xs d i differ lows low none =
      let all : at (map f xs) i + total_at (map f xs) is ≤ total (map f xs) =
      outside_least is (map f xs) i differ (below-map f xs is lows) (omega (arith, low, length-map xs f)) none in
      omega (arith, all, at-map f xs i d low, total-map f xs, total_at-map f xs is d lows)

  pub part_sum : (f : X → ℕ) (is : List ℕ) (xs : List X) (d : X) → Differ is → AreBelow (length xs) is → sum_by f (picked xs is d) ≤ sum_by f xs
  part_sum f is xs d differ lows =
      let all : total_at (map f xs) is ≤ total (map f xs) = part_least is (map f xs) differ (below-map f xs is lows) in
      omega (arith, all, total-map f xs, total_at-map f xs is d lows)

  pub one_least : (f : X → ℕ) (xs : List X) (i : ℕ) (d : X) → i < length xs → f (slice_index_or xs i d) ≤ sum_by f xs
  one_least f xs i d low = omega (arith, outside_sum f [] xs d i tt tt low tt)

  -- a sum above 0 has a number above 0
  pub some_above : (f : X → ℕ) (xs : List X) (d : X) → 0 < sum_by f xs → (i : ℕ) × (i < length xs) × (0 < f (slice_index_or xs i d))
  some_above f [] d above = absurd (omega (arith, above))
  some_above f (x ∷ xs) d above = elim (cases_lt 0 (f x)) [
    | inl here ↦ (0, omega arith, here)
    | inr none ↦
        let more = some_above f xs d (omega (arith, above, none, sum_by-cons f x xs)) in
        (suc more.0, omega (arith, more.1), more.2)
  ]
