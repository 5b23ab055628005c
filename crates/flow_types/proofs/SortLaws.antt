-- Insertion sort by a total order in which only equal elements tie: it keeps how often each element
-- occurs, it ascends, and two ascending lists in which each element occurs equally often are the same.
use Rattle.std.proofs.Common.{◌≡◌, ℕ, ◌+◌, Bool, true, false, cond, List, [], ◌∷◌, get_or, refl, sym, ap, ◌∙◌, subst, arith, zero, suc, count_by, IsSorted, IsPermutation}
use Rattle.std.specs.Cmp.{IsTotalOrder}
use Rattle.std.specs.Ordering.{is_gt, is_eq, is_lt, ordering_reverse}
use Rattle.std.specs.declared.cmp.Ordering.{Ordering}
use Rattle.std.specs.declared.cmp.Ordering.TheVariants.{Less, Equal, Greater}
use Rattle.std.proofs.lemmas.Cmp.{tied_itself, alike_right}
use Rattle.std.proofs.lemmas.Map.Lookups.{CmpEqualImpliesEq}
use Rattle.std.proofs.lemmas.List.Sums.{sum_by-cons}
use Rattle.std.proofs.lemmas.List.Sorted.{sum_by-IsPermutation}
use Rattle.flow_types.specs.Bags.{put_in_order, sort_by}

-- what a comparison adds to a count
abbrev weight : Ordering → ℕ
weight o = cond (is_eq o) 1 0

module _ {X : Type 0} (cmp : X → X → Ordering) where
  -- how often an element occurs
  abbrev pub times : X → List X → ℕ
  times t xs = count_by (λ x. is_eq (cmp t x)) xs

  pub times-cons : (t x : X) (xs : List X) → times t (x ∷ xs) ≡ cond (is_eq (cmp t x)) 1 0 + times t xs
  times-cons t x xs = sum_by-cons (λ y. cond (is_eq (cmp t y)) 1 0) x xs

  times-put : (t x : X) (ys : List X) → times t (put_in_order cmp x ys) ≡ cond (is_eq (cmp t x)) 1 0 + times t ys
  times-put t x [] = times-cons t x []
  times-put t x (y ∷ ys) = go (is_gt (cmp x y)) (times-put t x ys)
    where
      go : (b : Bool) → times t (put_in_order cmp x ys) ≡ cond (is_eq (cmp t x)) 1 0 + times t ys → times t (cond b (y ∷ put_in_order cmp x ys) (x ∷ y ∷ ys)) ≡ cond (is_eq (cmp t x)) 1 0 + times t (y ∷ ys)
      go true h = omega (arith, times-cons t y (put_in_order cmp x ys), h, times-cons t y ys)
      go false h = times-cons t x (y ∷ ys)

  pub times-sort : (t : X) (xs : List X) → times t (sort_by cmp xs) ≡ times t xs
  times-sort t [] = refl
  times-sort t (x ∷ xs) = omega (arith, times-put t x (sort_by cmp xs), times-sort t xs, times-cons t x xs)

  pub times-permutation : (t : X) (xs ys : List X) → IsPermutation xs ys → times t ys ≡ times t xs
  times-permutation t xs ys p = sum_by-IsPermutation (λ x. cond (is_eq (cmp t x)) 1 0) xs ys p

  -- x isn't above the first of the list, and so on along it
  abbrev Rises : X → List X → Type 0
  Rises x [] = Unit {0}
  Rises x (y ∷ ys) = (is_gt (cmp x y) ≡ false) × Rises y ys

  abbrev Ascends : List X → Type 0
  Ascends [] = Unit {0}
  Ascends (x ∷ xs) = Rises x xs

  below_back : (r s : Ordering) → s ≡ ordering_reverse r → is_lt r ≡ false → is_gt s ≡ false
  below_back Less s e h = cc
  below_back Equal s e h = ap is_gt e
  below_back Greater s e h = ap is_gt e

  above_back : (r s : Ordering) → s ≡ ordering_reverse r → is_gt r ≡ false → is_lt s ≡ false
  above_back Less s e h = ap is_lt e
  above_back Equal s e h = ap is_lt e
  above_back Greater s e h = cc

  above_turned : (r s : Ordering) → s ≡ ordering_reverse r → is_gt r ≡ true → is_gt s ≡ false
  above_turned Less s e h = cc
  above_turned Equal s e h = cc
  above_turned Greater s e h = ap is_gt e

  module _ (o : IsTotalOrder cmp) where
    ascends_from_sorted : (xs : List X) → IsSorted cmp xs → Ascends xs
    ascends_from_sorted [] h = tt
    ascends_from_sorted (x ∷ []) h = tt
    ascends_from_sorted (x ∷ y ∷ ys) h =
        (below_back (cmp y x) (cmp x y) (o.antisymm x y) (h 0 x (omega arith) (omega arith)), ascends_from_sorted (y ∷ ys) (λ k d low high. later k d (h (suc k) d (omega arith) (omega arith))))
      where
        later : (k : ℕ) (d : X) → is_lt (cmp (get_or (x ∷ y ∷ ys) (suc k + 1) d) (get_or (x ∷ y ∷ ys) (suc k) d)) ≡ false → is_lt (cmp (get_or (y ∷ ys) (k + 1) d) (get_or (y ∷ ys) k d)) ≡ false
        later k d e = let more : suc k + 1 ≡ suc (k + 1) = omega arith in subst (λ n. is_lt (cmp (get_or (x ∷ y ∷ ys) n d) (get_or (y ∷ ys) k d)) ≡ false) more e

    sorted_from_ascends : (xs : List X) → Ascends xs → IsSorted cmp xs
    sorted_from_ascends [] a k d low high = absurd (omega arith)
    sorted_from_ascends (x ∷ []) a k d low high = absurd (omega arith)
    sorted_from_ascends (x ∷ y ∷ ys) a zero d low high = above_back (cmp x y) (cmp y x) (o.antisymm y x) a.0
    sorted_from_ascends (x ∷ y ∷ ys) a (suc k) d low high =
        later (sorted_from_ascends (y ∷ ys) a.1 k d (omega arith) (omega arith))
      where
        later : is_lt (cmp (get_or (y ∷ ys) (k + 1) d) (get_or (y ∷ ys) k d)) ≡ false → is_lt (cmp (get_or (x ∷ y ∷ ys) (suc k + 1) d) (get_or (x ∷ y ∷ ys) (suc k) d)) ≡ false
        later e = let more : suc (k + 1) ≡ suc k + 1 = omega arith in subst (λ n. is_lt (cmp (get_or (x ∷ y ∷ ys) n d) (get_or (y ∷ ys) k d)) ≡ false) more e

    rises_put : (y x : X) (ys : List X) → is_gt (cmp y x) ≡ false → Rises y ys → Rises y (put_in_order cmp x ys)
    rises_put y x [] h r = (h, tt)
    rises_put y x (z ∷ zs) h r = go (is_gt (cmp x z)) refl (λ e. rises_put z x zs e r.1)
      where
        go : (b : Bool) → is_gt (cmp x z) ≡ b → (is_gt (cmp z x) ≡ false → Rises z (put_in_order cmp x zs)) → Rises y (cond b (z ∷ put_in_order cmp x zs) (x ∷ z ∷ zs))
        go true e f = (r.0, f (above_turned (cmp x z) (cmp z x) (o.antisymm z x) e))
        go false e f = (h, (e, r.1))

    put_ascends : (x : X) (ys : List X) → Ascends ys → Ascends (put_in_order cmp x ys)
    put_ascends x [] a = tt
    put_ascends x (y ∷ ys) a = go (is_gt (cmp x y)) refl
      where
        go : (b : Bool) → is_gt (cmp x y) ≡ b → Ascends (cond b (y ∷ put_in_order cmp x ys) (x ∷ y ∷ ys))
        go true e = rises_put y x ys (above_turned (cmp x y) (cmp y x) (o.antisymm y x) e) a
        go false e = (e, a)

    sort_ascends : (xs : List X) → Ascends (sort_by cmp xs)
    sort_ascends [] = tt
    sort_ascends (x ∷ xs) = put_ascends x (sort_by cmp xs) (sort_ascends xs)

    pub sort_sorted : (xs : List X) → IsSorted cmp (sort_by cmp xs)
    sort_sorted xs = sorted_from_ascends (sort_by cmp xs) (sort_ascends xs)

    -- below, and then not above
    less_on : (x y z : X) → cmp x y ≡ Less → is_gt (cmp y z) ≡ false → cmp x z ≡ Less
    less_on x y z p q = go (cmp y z) refl q
      where
        go : (r : Ordering) → cmp y z ≡ r → is_gt r ≡ false → cmp x z ≡ Less
        go Less e h = o.trans x y z p e
        go Equal e h = sym (alike_right o y z x e) ∙ p
        go Greater e h = cc

    none_below : (x y : X) (ys : List X) → cmp x y ≡ Less → Rises y ys → times x (y ∷ ys) ≡ 0
    none_below x y [] p r = times-cons x y [] ∙ ap (λ c. cond (is_eq c) 1 0 + 0) p
    none_below x y (z ∷ zs) p r =
        let here : weight (cmp x y) ≡ weight Less = ap weight p in
        let rest : times x (z ∷ zs) ≡ 0 = none_below x z zs (less_on x y z p r.0) r.1 in
        omega (arith, times-cons x y (z ∷ zs), here)

    once_more : (x : X) (xs : List X) → times x (x ∷ xs) ≡ 1 + times x xs
    once_more x xs = times-cons x x xs ∙ ap (λ r. cond (is_eq r) 1 0 + times x xs) (tied_itself o x)

    ascends_tail : (x : X) (xs : List X) → Rises x xs → Ascends xs
    ascends_tail x [] r = tt
    ascends_tail x (y ∷ ys) r = r.1

    module _ (exact : CmpEqualImpliesEq cmp) where
      heads : (x y : X) (xs ys : List X) → Rises x xs → Rises y ys → ((t : X) → times t (x ∷ xs) ≡ times t (y ∷ ys)) → x ≡ y
      heads x y xs ys a b h = go (cmp x y) refl
        where
          go : (r : Ordering) → cmp x y ≡ r → x ≡ y
          go Less e = absurd (omega (arith, none_below x y ys e b, once_more x xs, h x))
          go Equal e = exact x y e
          go Greater e = absurd (omega (arith, none_below y x xs (o.antisymm y x ∙ ap ordering_reverse e) a, once_more y ys, h y))

      same_from_times : (xs ys : List X) → Ascends xs → Ascends ys → ((t : X) → times t xs ≡ times t ys) → xs ≡ ys
      same_from_times [] [] a b h = refl
      same_from_times [] (y ∷ ys) a b h = absurd (omega (arith, once_more y ys, h y))
      same_from_times (x ∷ xs) [] a b h = absurd (omega (arith, once_more x xs, h x))
      same_from_times (x ∷ xs) (y ∷ ys) a b h =
          let head : x ≡ y = heads x y xs ys a b h in
          let tail : xs ≡ ys = same_from_times xs ys (ascends_tail x xs a) (ascends_tail y ys b) (λ t. omega (arith, h t, times-cons t x xs, times-cons t y ys, ap (λ z. weight (cmp t z)) head)) in
          cc

      -- the one ascending list in which each element occurs as often
      pub sort_by_unique : (xs ys : List X) → ((t : X) → times t xs ≡ times t ys) → IsSorted cmp ys → ys ≡ sort_by cmp xs
      sort_by_unique xs ys h s =
          same_from_times ys (sort_by cmp xs) (ascends_from_sorted ys s) (sort_ascends xs) (λ t. sym (h t) ∙ sym (times-sort t xs))

      -- what a sort leaves
      pub sort_by_permutation : (xs ys : List X) → IsPermutation xs ys → IsSorted cmp ys → ys ≡ sort_by cmp xs
      sort_by_permutation xs ys p s = sort_by_unique xs ys (λ t. sym (times-permutation t xs ys p)) s
