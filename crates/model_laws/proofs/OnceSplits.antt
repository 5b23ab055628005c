-- What a test keeps of a list's tuples in order, each once.
use Rattle.std.proofs.Common.{◌≡◌, ◌+◌, Bool, true, false, cond, [], ◌∷◌, filter, refl, sym, ap, ◌∙◌, arith, suc, IsSorted}
use Rattle.std.specs.List.{dedup, dedup_from, AllByRecursion}
use Rattle.std.specs.Ordering.{is_lt, is_eq, ordering_reverse}
use Rattle.std.specs.declared.cmp.Ordering.{Ordering}
use Rattle.std.specs.declared.cmp.Ordering.TheVariants.{Less, Equal, Greater}
use Rattle.std.proofs.lemmas.List.Elements.{recursion_from_All}
use Rattle.std.proofs.lemmas.List.Sorted.{ranks_by, sorted_far}
use Rattle.std.proofs.lemmas.List.Kept.{IsSortedBy-filter}
use Rattle.flow_types.specs.Tuples.{Tuple, tuple_cmp, tuple_eq}
use Rattle.flow_types.specs.Bags.{ordered}
use Rattle.flow_types.proofs.OrderLaws.{tuple_cmp_total, tuple_cmp_exact}
use Rattle.flow_types.proofs.SortLaws.{sort_sorted, sort_by_unique}
use Rattle.flow_types.proofs.BagLaws.{same-filter}
use Rattle.flow_types.proofs.BagBridges.{times_from_same, same-ordered}
use Rattle.flow_types.proofs.EqLemmas.{Decides-tuple_eq}
use Rattle.flow_model.specs.Env.{Tuples}
use Rattle.flow_model.specs.Rows.{each_once}

-- none of the later tuples is below an earlier one
abbrev Ascends : Tuples → Type 0
Ascends [] = Unit {0}
Ascends (x ∷ xs) = AllByRecursion (λ y. is_lt (tuple_cmp y x) ≡ false) xs × Ascends xs

ascends_from_sorted : (xs : Tuples) → IsSorted tuple_cmp xs → Ascends xs
ascends_from_sorted [] s = tt
ascends_from_sorted (x ∷ xs) s = (
  recursion_from_All (λ y. is_lt (tuple_cmp y x) ≡ false) xs (λ j d low. sorted_far (λ t u. is_lt (tuple_cmp t u)) (ranks_by tuple_cmp_total (λ t. t)) (x ∷ xs) s 0 (suc j) d (omega arith) (omega arith)),
  ascends_from_sorted xs (λ k d low high. sorted_far (λ t u. is_lt (tuple_cmp t u)) (ranks_by tuple_cmp_total (λ t. t)) (x ∷ xs) s (suc k) (suc (k + 1)) d (omega arith) (omega arith)),
)

-- what comes after a greater one is greater
greater_on : (k x y : Tuple) → is_lt (tuple_cmp x k) ≡ false → tuple_eq x k ≡ false → is_lt (tuple_cmp y x) ≡ false → tuple_eq y k ≡ false
greater_on k x y up apart rise = go (tuple_cmp x k) (tuple_cmp y x) refl refl
  where
    go : (r s : Ordering) → tuple_cmp x k ≡ r → tuple_cmp y x ≡ s → tuple_eq y k ≡ false
    go Less s d e = let f : is_lt Less ≡ false = ap is_lt (sym d) ∙ up in cc
    go Equal s d e = let f : is_eq Equal ≡ false = ap is_eq (sym d) ∙ apart in cc
    go Greater Less d e = let f : is_lt Less ≡ false = ap is_lt (sym e) ∙ rise in cc
    go Greater Equal d e = ap (λ t. tuple_eq t k) (tuple_cmp_exact y x e) ∙ apart
    go Greater Greater d e =
        let low : tuple_cmp k x ≡ Less = tuple_cmp_total.antisymm k x ∙ ap ordering_reverse d in
        let high : tuple_cmp x y ≡ Less = tuple_cmp_total.antisymm x y ∙ ap ordering_reverse e in
        ap is_eq (tuple_cmp_total.antisymm y k ∙ ap ordering_reverse (tuple_cmp_total.trans k x y low high))

all_greater : (k x : Tuple) → is_lt (tuple_cmp x k) ≡ false → tuple_eq x k ≡ false → (xs : Tuples) → AllByRecursion (λ y. is_lt (tuple_cmp y x) ≡ false) xs → AllByRecursion (λ y. tuple_eq y k ≡ false) xs
all_greater k x up apart [] h = tt
all_greater k x up apart (y ∷ ys) h = (greater_on k x y up apart h.0, all_greater k x up apart ys h.1)

module _ (p : Tuple → Bool) where
  -- a tuple that no later one is equal to
  dedup-apart : (k : Tuple) (xs : Tuples) → AllByRecursion (λ y. tuple_eq y k ≡ false) xs → dedup_from tuple_eq k (filter p xs) ≡ k ∷ dedup tuple_eq (filter p xs)
  dedup-apart k [] h = refl
  dedup-apart k (x ∷ xs) h = go (p x) (dedup-apart k xs h.1)
    where
      go : (b : Bool) → dedup_from tuple_eq k (filter p xs) ≡ k ∷ dedup tuple_eq (filter p xs) → dedup_from tuple_eq k (cond b (x ∷ filter p xs) (filter p xs)) ≡ k ∷ dedup tuple_eq (cond b (x ∷ filter p xs) (filter p xs))
      go true e = ap (λ c. cond c (dedup_from tuple_eq k (filter p xs)) (k ∷ dedup_from tuple_eq x (filter p xs))) h.0
      go false e = e

  dedup_from-filter : (k : Tuple) (xs : Tuples) → AllByRecursion (λ y. is_lt (tuple_cmp y k) ≡ false) xs → Ascends xs → filter p (dedup_from tuple_eq k xs) ≡ cond (p k) (dedup_from tuple_eq k (filter p xs)) (dedup tuple_eq (filter p xs))
  dedup_from-filter k [] h a = refl
  dedup_from-filter k (x ∷ xs) h a =
      go (tuple_eq x k) (p x) (p k) refl refl refl (dedup_from-filter k xs h.1 a.1) (dedup_from-filter x xs a.0 a.1)
    where
      go : (b q r : Bool) → tuple_eq x k ≡ b → p x ≡ q → p k ≡ r → filter p (dedup_from tuple_eq k xs) ≡ cond (p k) (dedup_from tuple_eq k (filter p xs)) (dedup tuple_eq (filter p xs)) → filter p (dedup_from tuple_eq x xs) ≡ cond (p x) (dedup_from tuple_eq x (filter p xs)) (dedup tuple_eq (filter p xs)) → filter p (cond b (dedup_from tuple_eq k xs) (k ∷ dedup_from tuple_eq x xs)) ≡ cond r (dedup_from tuple_eq k (cond q (x ∷ filter p xs) (filter p xs))) (dedup tuple_eq (cond q (x ∷ filter p xs) (filter p xs)))
      go true true true d e f u v =
          u ∙ ap (λ c. cond c (dedup_from tuple_eq k (filter p xs)) (dedup tuple_eq (filter p xs))) f
          ∙ sym (ap (λ c. cond c (dedup_from tuple_eq k (filter p xs)) (k ∷ dedup_from tuple_eq x (filter p xs))) d)
      go true false false d e f u v = u ∙ ap (λ c. cond c (dedup_from tuple_eq k (filter p xs)) (dedup tuple_eq (filter p xs))) f
      go true true false d e f u v = let g : p x ≡ p k = ap p ((Decides-tuple_eq x k).0 d) in cc
      go true false true d e f u v = let g : p x ≡ p k = ap p ((Decides-tuple_eq x k).0 d) in cc
      go false true true d e f u v =
          ap (λ c. cond c (k ∷ filter p (dedup_from tuple_eq x xs)) (filter p (dedup_from tuple_eq x xs))) f
          ∙ ap (λ ys. k ∷ ys) (v ∙ ap (λ c. cond c (dedup_from tuple_eq x (filter p xs)) (dedup tuple_eq (filter p xs))) e)
          ∙ sym (ap (λ c. cond c (dedup_from tuple_eq k (filter p xs)) (k ∷ dedup_from tuple_eq x (filter p xs))) d)
      go false false true d e f u v =
          ap (λ c. cond c (k ∷ filter p (dedup_from tuple_eq x xs)) (filter p (dedup_from tuple_eq x xs))) f
          ∙ ap (λ ys. k ∷ ys) (v ∙ ap (λ c. cond c (dedup_from tuple_eq x (filter p xs)) (dedup tuple_eq (filter p xs))) e)
          ∙ sym (dedup-apart k xs (all_greater k x h.0 d xs a.0))
      go false true false d e f u v =
          ap (λ c. cond c (k ∷ filter p (dedup_from tuple_eq x xs)) (filter p (dedup_from tuple_eq x xs))) f
          ∙ v ∙ ap (λ c. cond c (dedup_from tuple_eq x (filter p xs)) (dedup tuple_eq (filter p xs))) e
      go false false false d e f u v =
          ap (λ c. cond c (k ∷ filter p (dedup_from tuple_eq x xs)) (filter p (dedup_from tuple_eq x xs))) f
          ∙ v ∙ ap (λ c. cond c (dedup_from tuple_eq x (filter p xs)) (dedup tuple_eq (filter p xs))) e

  dedup-filter : (xs : Tuples) → Ascends xs → filter p (dedup tuple_eq xs) ≡ dedup tuple_eq (filter p xs)
  dedup-filter [] a = refl
  dedup-filter (x ∷ xs) a = dedup_from-filter x xs a.0 a.1 ∙ go (p x)
    where
      go : (b : Bool) → cond b (dedup_from tuple_eq x (filter p xs)) (dedup tuple_eq (filter p xs)) ≡ dedup tuple_eq (cond b (x ∷ filter p xs) (filter p xs))
      go true = refl
      go false = refl

  -- the one ascending list of what is kept is what is kept of the one ascending list
  pub ordered-filter : (xs : Tuples) → filter p (ordered xs) ≡ ordered (filter p xs)
  ordered-filter xs =
      sort_by_unique tuple_cmp tuple_cmp_total tuple_cmp_exact (filter p xs) (filter p (ordered xs))
      (λ t. times_from_same tuple_cmp (same-filter p (same-ordered xs)) t)
      (IsSortedBy-filter (λ t u. is_lt (tuple_cmp t u)) (ranks_by tuple_cmp_total (λ t. t)) p (ordered xs) (sort_sorted tuple_cmp tuple_cmp_total xs))

  pub each_once-filter : (xs : Tuples) → each_once (filter p xs) ≡ filter p (each_once xs)
  each_once-filter xs =
      ap (dedup tuple_eq) (sym (ordered-filter xs))
      ∙ sym (dedup-filter (ordered xs) (ascends_from_sorted (ordered xs) (sort_sorted tuple_cmp tuple_cmp_total xs)))
