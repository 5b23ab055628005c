-- Same bags by order, by counts and by exchanges of places, and the sorts that they share.
use Rattle.std.proofs.Common.{◌≡◌, ℕ, ◌<◌, Bool, true, false, cond, List, [], ◌∷◌, length, get_or, set, sym, ◌∙◌, arith, zero, suc, IsPermutation}
use Rattle.std.specs.Cmp.{IsTotalOrder}
use Rattle.std.specs.Ordering.{is_gt, is_eq}
use Rattle.std.specs.List.{swap}
use Rattle.std.specs.declared.cmp.Ordering.{Ordering}
use Rattle.std.proofs.lemmas.Map.Lookups.{CmpEqualImpliesEq}
use Rattle.std.proofs.lemmas.List.Sorted.{IsPermutation-refl, IsPermutation-cons, IsPermutation-trans, IsPermutation-middle, IsPermutation-keeps}
use Rattle.flow_types.specs.declared.order_item.OrderItem.{OrderItem}
use Rattle.flow_types.specs.Tuples.{Tuple, tuple_cmp, rank_cmp}
use Rattle.flow_types.specs.Bags.{put_in_order, sort_by, ordered, IsSameBag}
use Rattle.flow_types.specs.SameBags.{SameBag}
use Rattle.flow_types.proofs.OrderLaws.{tuple_cmp_total, tuple_cmp_exact}
use Rattle.flow_types.proofs.RankLaws.{rank_cmp_total, rank_cmp_exact}
use Rattle.flow_types.proofs.SortLaws.{times, times-sort, sort_sorted, sort_by_unique}
use Rattle.flow_types.proofs.BagLaws.{same-refl, same-sym, same-from_equal, count_by-same}

-- ---- by exchanges of places, as std's sorts say it

pub permutation_from_same : {X : Type 0} {xs ys : List X} → SameBag xs ys → IsPermutation xs ys
permutation_from_same SameBag.none = IsPermutation-refl []
permutation_from_same (SameBag.head {x} {xs} {ys} s) = IsPermutation-cons x xs ys (permutation_from_same s)
permutation_from_same (SameBag.swap {x} {y} {xs}) = IsPermutation-middle (x ∷ []) y xs
permutation_from_same (SameBag.join {xs} {ys} {zs} s t) = IsPermutation-trans xs ys zs (permutation_from_same s) (permutation_from_same t)

-- an element that takes another's place
same-set : {X : Type 0} (x d : X) (xs : List X) (i : ℕ) → i < length xs → SameBag (x ∷ xs) (get_or xs i d ∷ set xs i x)
same-set x d [] i low = absurd (omega arith)
same-set x d (y ∷ ys) zero low = SameBag.swap
same-set x d (y ∷ ys) (suc i) low = SameBag.join SameBag.swap (SameBag.join (SameBag.head (same-set x d ys i (omega arith))) SameBag.swap)

same-exchange : {X : Type 0} (d : X) (xs : List X) (i j : ℕ) → i < length xs → j < length xs → SameBag xs (set (set xs i (get_or xs j d)) j (get_or xs i d))
same-exchange d [] i j low high = absurd (omega arith)
same-exchange d (y ∷ ys) zero zero low high = same-refl (y ∷ ys)
same-exchange d (y ∷ ys) zero (suc j) low high = same-set y d ys j (omega arith)
same-exchange d (y ∷ ys) (suc i) zero low high = same-set y d ys i (omega arith)
same-exchange d (y ∷ ys) (suc i) (suc j) low high = SameBag.head (same-exchange d ys i j (omega arith) (omega arith))

same-swap : {X : Type 0} (xs : List X) (i j : ℕ) → i < length xs → j < length xs → SameBag xs (swap xs i j)
same-swap [] i j low high = absurd (omega arith)
same-swap (x ∷ xs) i j low high = same-exchange x (x ∷ xs) i j low high

pub same_from_permutation : {X : Type 0} {xs ys : List X} → IsPermutation xs ys → SameBag xs ys
same_from_permutation {X} {xs} {ys} p =
    IsPermutation-keeps xs (SameBag xs) (same-refl xs) (λ l i j low high s. SameBag.join s (same-swap l i j low high)) ys p

-- ---- by counts, and sorted

module _ {X : Type 0} (cmp : X → X → Ordering) where
  same-put : (x : X) (ys : List X) → SameBag (x ∷ ys) (put_in_order cmp x ys)
  same-put x [] = same-refl (x ∷ [])
  same-put x (y ∷ ys) = go (is_gt (cmp x y)) (same-put x ys)
    where
      go : (b : Bool) → SameBag (x ∷ ys) (put_in_order cmp x ys) → SameBag (x ∷ y ∷ ys) (cond b (y ∷ put_in_order cmp x ys) (x ∷ y ∷ ys))
      go true s = SameBag.join SameBag.swap (SameBag.head s)
      go false s = same-refl (x ∷ y ∷ ys)

  pub same-sort : (xs : List X) → SameBag xs (sort_by cmp xs)
  same-sort [] = SameBag.none
  same-sort (x ∷ xs) = SameBag.join (SameBag.head (same-sort xs)) (same-put x (sort_by cmp xs))

  pub times_from_same : {xs ys : List X} → SameBag xs ys → (t : X) → times cmp t xs ≡ times cmp t ys
  times_from_same s t = count_by-same (λ x. is_eq (cmp t x)) s

  module _ (o : IsTotalOrder cmp) (exact : CmpEqualImpliesEq cmp) where
    -- lists in which each element occurs equally often have one sorted list
    pub sort_by_from_times : (xs ys : List X) → ((t : X) → times cmp t xs ≡ times cmp t ys) → sort_by cmp xs ≡ sort_by cmp ys
    sort_by_from_times xs ys h =
        sort_by_unique cmp o exact ys (sort_by cmp xs) (λ t. sym (h t) ∙ sym (times-sort cmp t xs)) (sort_sorted cmp o xs)

    pub same_from_times : (xs ys : List X) → ((t : X) → times cmp t xs ≡ times cmp t ys) → SameBag xs ys
    same_from_times xs ys h =
        SameBag.join (same-sort xs) (SameBag.join (same-from_equal (sort_by_from_times xs ys h)) (same-sym (same-sort ys)))

    pub sort_by-same : {xs ys : List X} → SameBag xs ys → sort_by cmp xs ≡ sort_by cmp ys
    sort_by-same {xs} {ys} s = sort_by_from_times xs ys (times_from_same s)

-- ---- of tuples

pub copies_from_same : {xs ys : List Tuple} → SameBag xs ys → IsSameBag xs ys
copies_from_same s t = times_from_same tuple_cmp s t

pub same_from_copies : (xs ys : List Tuple) → IsSameBag xs ys → SameBag xs ys
same_from_copies xs ys h = same_from_times tuple_cmp tuple_cmp_total tuple_cmp_exact xs ys h

pub ordered-same : {xs ys : List Tuple} → SameBag xs ys → ordered xs ≡ ordered ys
ordered-same s = sort_by-same tuple_cmp tuple_cmp_total tuple_cmp_exact s

pub same-ordered : (xs : List Tuple) → SameBag xs (ordered xs)
same-ordered xs = same-sort tuple_cmp xs

pub same_from_ordered : (xs ys : List Tuple) → ordered xs ≡ ordered ys → SameBag xs ys
same_from_ordered xs ys e = SameBag.join (same-ordered xs) (SameBag.join (same-from_equal e) (same-sym (same-ordered ys)))

-- rows in the order of a rank
pub rank_sort-same : (items : List OrderItem) {xs ys : List Tuple} → SameBag xs ys → sort_by (rank_cmp items) xs ≡ sort_by (rank_cmp items) ys
rank_sort-same items s = sort_by-same (rank_cmp items) (rank_cmp_total items) (rank_cmp_exact items) s
