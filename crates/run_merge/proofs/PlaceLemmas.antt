-- One source of a list is changed.
use Rattle.std.proofs.Common.{◌≡◌, ◌≢◌, inl, inr, ℕ, zero, suc, ◌+◌, ◌<◌, ◌≤◌, All, List, [], ◌∷◌, length, slice_index_or, refl, sym, ap, subst, arith, sum_by, Option, Some, None, Result, Ok, Err, OnOk}
use Rattle.std.proofs.lemmas.Bool.{cases_eq}
use Rattle.std.proofs.lemmas.List.Sums.{sum_by-cons}
use Rattle.std.specs.declared.cmp.Ordering.{Ordering}
use Rattle.flow_outside.specs.Blocks.{Blocks}
use Rattle.flow_outside.specs.declared.failure.StreamFault.{StreamFault}
use Rattle.paged_view.specs.Streams.{KnowsRows}
use Rattle.run_merge.specs.Merging.{Merges, Pairwise, Row, Rows}

-- a list with a place isn't empty
pub first_of : {S : Type 0} (xs : List S) (at : ℕ) → at < length xs → S
first_of [] at low = absurd (omega (arith, low))
first_of (x ∷ xs) at low = x

-- lists that agree everywhere are one
pub same_list : {S : Type 0} (xs ys : List S) → length ys ≡ length xs → ((i : ℕ) (d : S) → slice_index_or ys i d ≡ slice_index_or xs i d) → ys ≡ xs
same_list [] [] count same = refl
same_list [] (y ∷ ys) count same = absurd (omega (arith, count))
same_list (x ∷ xs) [] count same = absurd (omega (arith, count))
same_list (x ∷ xs) (y ∷ ys) count same =
    let head : y ≡ x = same 0 x in
    let tail : ys ≡ xs = same_list xs ys (omega (arith, count)) (λ i d. same (suc i) d) in
    cc

-- a sum of which one part changed
pub one_sum : {S : Type 0} (f : S → ℕ) (xs ys : List S) (at : ℕ) (d : S) → at < length xs → length ys ≡ length xs → ((i : ℕ) (e : S) → i ≢ at → slice_index_or ys i e ≡ slice_index_or xs i e)
    → sum_by f ys + f (slice_index_or xs at d) ≡ sum_by f xs + f (slice_index_or ys at d)
one_sum f [] ys at d low count same = absurd (omega (arith, low))
one_sum f (x ∷ xs) [] at d low count same = absurd (omega (arith, count))
one_sum f (x ∷ xs) (y ∷ ys) zero d low count same =
    let tail : ys ≡ xs = same_list xs ys (omega (arith, count)) (λ i e. same (suc i) e (λ is. absurd (omega (arith, is)))) in
    omega (arith, ap (sum_by f) tail, sum_by-cons f x xs, sum_by-cons f y ys)
one_sum f (x ∷ xs) (y ∷ ys) (suc at) d low count same =
    let head : y ≡ x = same 0 x (λ is. absurd (omega (arith, is))) in
    omega (arith, ap f head, sum_by-cons f x xs, sum_by-cons f y ys, one_sum f xs ys at d (omega (arith, low)) (omega (arith, count)) (λ i e far. same (suc i) e (λ is. far (omega (arith, is)))))

module _ {S : Type 0} (xs ys : List S) (at : ℕ) (low : at < length xs) (count : length ys ≡ length xs) (same : (i : ℕ) (d : S) → i ≢ at → slice_index_or ys i d ≡ slice_index_or xs i d) where
  pub all_with : (P : S → Type 0) → All P xs → ((d : S) → P (slice_index_or ys at d)) → All P ys
  all_with P all here = λ i d inside. elim (cases_eq i at) [
    | inl is ↦ subst (λ j. P (slice_index_or ys j d)) (sym is) (here d)
    | inr far ↦ subst P (sym (same i d far)) (all i d (omega (arith, inside, count)))
  ]

  pub sum_falls : (f : S → ℕ) → ((d : S) → f (slice_index_or ys at d) ≤ f (slice_index_or xs at d)) → sum_by f ys ≤ sum_by f xs
  sum_falls f less = omega (arith, one_sum f xs ys at (first_of xs at low) low count same, less (first_of xs at low))

  pub sum_stays : (f : S → ℕ) → ((d : S) → f (slice_index_or ys at d) ≡ f (slice_index_or xs at d)) → sum_by f ys ≡ sum_by f xs
  sum_stays f is = omega (arith, one_sum f xs ys at (first_of xs at low) low count same, is (first_of xs at low))

-- what a source at a place yields
pub pair_at : {S : Type 0} (P : S → Rows → Type 0) (xs : List S) (at : ℕ) (d : S) (lists : List Rows) → at < length xs → Pairwise P xs lists → (rows : Rows) × P (slice_index_or xs at d) rows
pair_at P [] at d lists low pair = absurd (omega (arith, low))
pair_at P (x ∷ xs) at d [] low pair = absurd pair
pair_at P (x ∷ xs) zero d (rows ∷ lists) low pair = (rows, pair.0)
pair_at P (x ∷ xs) (suc at) d (rows ∷ lists) low pair = pair_at P xs at d lists (omega (arith, low)) pair.1

pair_map : {S : Type 0} (P Q : S → Rows → Type 0) → ((s : S) (rows : Rows) → P s rows → Q s rows) → (xs : List S) (lists : List Rows) → Pairwise P xs lists → Pairwise Q xs lists
pair_map P Q f [] [] pair = pair
pair_map P Q f [] (rows ∷ lists) pair = pair
pair_map P Q f (x ∷ xs) [] pair = pair
pair_map P Q f (x ∷ xs) (rows ∷ lists) pair = (f x rows pair.0, pair_map P Q f xs lists pair.1)

pair_with : {S : Type 0} (P Q : S → Rows → Type 0) → ((s : S) (rows : Rows) → P s rows → Q s rows) → (xs ys : List S) (at : ℕ) → at < length xs → length ys ≡ length xs
    → ((i : ℕ) (d : S) → i ≢ at → slice_index_or ys i d ≡ slice_index_or xs i d) → ((d : S) (rows : Rows) → P (slice_index_or xs at d) rows → Q (slice_index_or ys at d) rows)
    → (lists : List Rows) → Pairwise P xs lists → Pairwise Q ys lists
pair_with P Q f [] ys at low count same here lists pair = absurd (omega (arith, low))
pair_with P Q f (x ∷ xs) [] at low count same here lists pair = absurd (omega (arith, count))
pair_with P Q f (x ∷ xs) (y ∷ ys) at low count same here [] pair = absurd pair
pair_with P Q f (x ∷ xs) (y ∷ ys) zero low count same here (rows ∷ lists) pair =
    let tail : ys ≡ xs = same_list xs ys (omega (arith, count)) (λ i e. same (suc i) e (λ is. absurd (omega (arith, is)))) in
    (here x rows pair.0, subst (λ zs. Pairwise Q zs lists) (sym tail) (pair_map P Q f xs lists pair.1))
pair_with P Q f (x ∷ xs) (y ∷ ys) (suc at) low count same here (rows ∷ lists) pair =
    let head : y ≡ x = same 0 x (λ is. absurd (omega (arith, is))) in (
      subst (λ s. Q s rows) (sym head) (f x rows pair.0),
      pair_with P Q f xs ys at (omega (arith, low)) (omega (arith, count)) (λ i e far. same (suc i) e (λ is. far (omega (arith, is)))) here lists pair.1,
    )

module _ {S : Type 0} (cmp : Row → Row → Ordering) (Y : Option Blocks → S → Rows → Type 0) (t : Option Blocks) where
  pub known_at : (xs : List S) (at : ℕ) → at < length xs → KnowsRows t (Merges cmp (Y t) xs) → (d : S) → KnowsRows t (Y t (slice_index_or xs at d))
  known_at xs at low known d = go t known
    where
      go : (v : Option Blocks) → KnowsRows v (Merges cmp (Y t) xs) → KnowsRows v (Y t (slice_index_or xs at d))
      go None k = tt
      go (Some m) k = pair_at (Y t) xs at d k.1.0 low k.1.1

  pub merges_with : (u : Option Blocks) → u ≡ t → (xs ys : List S) (at : ℕ) → at < length xs → length ys ≡ length xs → ((i : ℕ) (d : S) → i ≢ at → slice_index_or ys i d ≡ slice_index_or xs i d)
      → (answer : Result Unit StreamFault) → ((d : S) → OnOk answer ((rows : Rows) → Y t (slice_index_or xs at d) rows → Y u (slice_index_or ys at d) rows))
      → OnOk answer ((rows : Rows) → Merges cmp (Y t) xs rows → Merges cmp (Y u) ys rows)
  merges_with u told xs ys at low count same (Err fault) here = tt
  merges_with u told xs ys at low count same (Ok done) here = λ rows m.
      (m.0, pair_with (Y t) (Y u) (λ s r y. subst (λ w. Y w s r) (sym told) y) xs ys at low count same here m.0 m.1, m.2)

  pub known_on : (u : Option Blocks) → u ≡ t → (xs ys : List S) → ((rows : Rows) → Merges cmp (Y t) xs rows → Merges cmp (Y u) ys rows) → KnowsRows t (Merges cmp (Y t) xs) → KnowsRows u (Merges cmp (Y u) ys)
  known_on u told xs ys on known = subst (λ w. KnowsRows w (Merges cmp (Y u) ys)) (sym told) (go t known)
    where
      go : (v : Option Blocks) → KnowsRows v (Merges cmp (Y t) xs) → KnowsRows v (Merges cmp (Y u) ys)
      go None k = tt
      go (Some m) k = (k.0, on k.0 k.1)

-- one place more is done
pub more_places : {S : Type 0} (P : S → Type 0) (xs ys : List S) (at : ℕ) → ((i : ℕ) (d : S) → i ≢ at → slice_index_or ys i d ≡ slice_index_or xs i d) → ((i : ℕ) (d : S) → i < at → P (slice_index_or xs i d)) → ((d : S) → P (slice_index_or ys at d))
    → (i : ℕ) (d : S) → i < at + 1 → P (slice_index_or ys i d)
more_places P xs ys at same before here i d less = elim (cases_eq i at) [
  | inl is ↦ subst (λ j. P (slice_index_or ys j d)) (sym is) (here d)
  | inr far ↦ subst P (sym (same i d far)) (before i d (omega (arith, less, far)))
]
