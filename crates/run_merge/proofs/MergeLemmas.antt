-- The first of the least rows that are shown is the first of all in order.
use Rattle.std.proofs.Common.{◌≡◌, ◌≢◌, ℕ, zero, suc, ◌<◌, Bool, true, false, cond, All, IsTrue, List, [], ◌∷◌, ◌++◌, length, slice_index_or, Option, Some, None, refl, sym, ap, ◌∙◌, subst, arith}
use Rattle.std.proofs.lemmas.List.Elements.{All-append, All-cons, All-head, All-nil, All-tail}
use Rattle.std.specs.List.{flat_map}
use Rattle.std.specs.Cmp.{IsTotalOrder}
use Rattle.std.specs.Ordering.{is_gt, ordering_reverse}
use Rattle.std.specs.declared.cmp.Ordering.{Ordering}
use Rattle.std.specs.declared.cmp.Ordering.TheVariants.{Less, Equal, Greater}
use Rattle.flow_outside.specs.Blocks.{Blocks}
use Rattle.flow_types.specs.Bags.{put_in_order, sort_by}
use Rattle.run_merge.specs.Merging.{Ascends, IsLeastBelow, Pairwise, Pending, Row, Rows, merged, yields}
use Rattle.run_merge.specs.declared.source.Source.{Source}
use Rattle.run_merge.proofs.OrderLemmas.{all_greater, all_not_greater}
use Rattle.run_merge.proofs.PlaceLemmas.{same_list}

module _ (cmp : Row → Row → Ordering) where
  put_first : (x h : Row) (zs : Rows) → is_gt (cmp x h) ≡ true → put_in_order cmp x (h ∷ zs) ≡ h ∷ put_in_order cmp x zs
  put_first x h zs greater = ap (λ b. cond b (h ∷ put_in_order cmp x zs) (x ∷ h ∷ zs)) greater

  put_least : (h : Row) (zs : Rows) → All (λ z. is_gt (cmp h z) ≡ false) zs → put_in_order cmp h zs ≡ h ∷ zs
  put_least h [] all = refl
  put_least h (z ∷ zs) all = ap (λ b. cond b (z ∷ put_in_order cmp h zs) (h ∷ z ∷ zs)) (All-head (λ z. is_gt (cmp h z) ≡ false) z zs all)

  all_put : (P : Row → Type 0) (x : Row) (ys : Rows) → P x → All P ys → All P (put_in_order cmp x ys)
  all_put P x [] p all = All-cons P x [] p all
  all_put P x (y ∷ ys) p all = go (is_gt (cmp x y)) (all_put P x ys p (All-tail P y ys all))
    where
      go : (b : Bool) → All P (put_in_order cmp x ys) → All P (cond b (y ∷ put_in_order cmp x ys) (x ∷ y ∷ ys))
      go true behind = All-cons P y (put_in_order cmp x ys) (All-head P y ys all) behind
      go false behind = All-cons P x (y ∷ ys) p all

  all_sort : (P : Row → Type 0) (xs : Rows) → All P xs → All P (sort_by cmp xs)
  all_sort P [] all = all
  all_sort P (x ∷ xs) all = all_put P x (sort_by cmp xs) (All-head P x xs all) (all_sort P xs (All-tail P x xs all))

  module _ (o : IsTotalOrder cmp) where
    turned : (x y : Row) (r : Ordering) → cmp x y ≡ r → is_gt r ≡ true → is_gt (cmp y x) ≡ false
    turned x y Less is greater = cc
    turned x y Equal is greater = cc
    turned x y Greater is greater = ap is_gt (o.antisymm y x ∙ ap ordering_reverse is)

    put_ascends : (x : Row) (ys : Rows) → Ascends cmp ys → Ascends cmp (put_in_order cmp x ys)
    put_ascends x [] up = (All-nil (λ other. is_gt (cmp x other) ≡ false), tt)
    put_ascends x (y ∷ ys) up = go (is_gt (cmp x y)) refl (put_ascends x ys up.1)
      where
        go : (b : Bool) → is_gt (cmp x y) ≡ b → Ascends cmp (put_in_order cmp x ys) → Ascends cmp (cond b (y ∷ put_in_order cmp x ys) (x ∷ y ∷ ys))
        go true e behind = (all_put (λ other. is_gt (cmp y other) ≡ false) x ys (turned x y (cmp x y) refl e) up.0, behind)
        go false e behind = (All-cons (λ other. is_gt (cmp x other) ≡ false) y ys e (all_not_greater cmp o x y ys e up.0), up)

    pub sort_ascends : (xs : Rows) → Ascends cmp (sort_by cmp xs)
    sort_ascends [] = tt
    sort_ascends (x ∷ xs) = put_ascends x (sort_by cmp xs) (sort_ascends xs)

  sort_least : (h : Row) (ys : Rows) → All (λ z. is_gt (cmp h z) ≡ false) ys → sort_by cmp (h ∷ ys) ≡ h ∷ sort_by cmp ys
  sort_least h ys all = put_least h (sort_by cmp ys) (all_sort (λ z. is_gt (cmp h z) ≡ false) ys all)

  sort_skip : (xs : Rows) (h : Row) (ys zs : Rows) → All (λ x. is_gt (cmp x h) ≡ true) xs → sort_by cmp ys ≡ h ∷ sort_by cmp zs → sort_by cmp (xs ++ ys) ≡ h ∷ sort_by cmp (xs ++ zs)
  sort_skip [] h ys zs all first = first
  sort_skip (x ∷ xs) h ys zs all first =
      ap (put_in_order cmp x) (sort_skip xs h ys zs (All-tail (λ y. is_gt (cmp y h) ≡ true) x xs all) first) ∙ put_first x h (sort_by cmp (xs ++ zs)) (All-head (λ y. is_gt (cmp y h) ≡ true) x xs all)

-- what is pending where nothing was given
parted_some : (given : Bool) (shown : Option Row) (left : Rows → Type 0) (rows : Rows) (row : Row) → given ≡ false → shown ≡ Some row → Pending given shown left rows → (rest : Rows) × (rows ≡ row ∷ rest) × left rest
parted_some true shown left rows row not is p = cc
parted_some false None left rows row not is p = cc
parted_some false (Some other) left rows row not is p = (p.0, let same : other ≡ row = cc in subst (λ r. rows ≡ r ∷ p.0) same p.1, p.2)

parted_none : (given : Bool) (shown : Option Row) (left : Rows → Type 0) (rows : Rows) → given ≡ false → shown ≡ None → Pending given shown left rows → rows ≡ []
parted_none true shown left rows not is p = cc
parted_none false None left rows not is p = p
parted_none false (Some other) left rows not is p = cc

module _ {R : Type 0} (cmp : Row → Row → Ordering) (o : IsTotalOrder cmp) (fit : Row → Bool) (shown : R → Option Row) (left : R → Option Blocks → Rows → Type 0) (t : Option Blocks) where
  abbrev Y : Source R → Rows → Type 0
  Y = yields cmp fit shown left t

  -- all of one list, by what is shown of it
  list_from : (P : Row → Type 0) (s : Source R) (rows : Rows) → s.given ≡ false → Y s rows → ((other : Row) (rest : Rows) → shown s.stream ≡ Some other → Ascends cmp (other ∷ rest) → All P (other ∷ rest)) → All P rows
  list_from P s rows waits y from = go (shown s.stream) refl
    where
      go : (seen : Option Row) → shown s.stream ≡ seen → All P rows
      go None is = subst (All P) (sym (parted_none s.given (shown s.stream) (left s.stream t) rows waits is y.pending)) (All-nil P)
      go (Some other) is =
          let parts = parted_some s.given (shown s.stream) (left s.stream t) rows other waits is y.pending in
          subst (All P) (sym parts.1) (from other parts.0 is (subst (Ascends cmp) parts.1 y.ascends))

  all_least : (row : Row) (sources : List (Source R)) (lists : List Rows) → All (λ s. s.given ≡ false) sources → Pairwise Y sources lists
      → ((i : ℕ) (d : Source R) (other : Row) → i < length sources → shown (slice_index_or sources i d).stream ≡ Some other → is_gt (cmp row other) ≡ false) → All (λ z. is_gt (cmp row z) ≡ false) (flat_map (λ rows. rows) lists)
  all_least row [] [] waits pair least = All-nil (λ z. is_gt (cmp row z) ≡ false)
  all_least row [] (rows ∷ lists) waits pair least = absurd pair
  all_least row (s ∷ sources) [] waits pair least = absurd pair
  all_least row (s ∷ sources) (rows ∷ lists) waits pair least =
      All-append (λ z. is_gt (cmp row z) ≡ false) rows (flat_map (λ r. r) lists)
      (list_from (λ z. is_gt (cmp row z) ≡ false) s rows (All-head (λ (x : Source R). x.given ≡ false) s sources waits) pair.0
      (λ other rest is up. All-cons (λ z. is_gt (cmp row z) ≡ false) other rest (least 0 s other (omega arith) is) (all_not_greater cmp o row other rest (least 0 s other (omega arith) is) up.0)))
      (all_least row sources lists (All-tail (λ (x : Source R). x.given ≡ false) s sources waits) pair.1 (λ i d other low is. least (suc i) d other (omega (arith, low)) is))

  pub none_left : (sources : List (Source R)) (lists : List Rows) → All (λ s. s.given ≡ false) sources → Pairwise Y sources lists
      → ((i : ℕ) (d : Source R) → i < length sources → shown (slice_index_or sources i d).stream ≡ None) → flat_map (λ rows. rows) lists ≡ []
  none_left [] [] waits pair none = refl
  none_left [] (rows ∷ lists) waits pair none = absurd pair
  none_left (s ∷ sources) [] waits pair none = absurd pair
  none_left (s ∷ sources) (rows ∷ lists) waits pair none =
      let here : rows ≡ [] = parted_none s.given (shown s.stream) (left s.stream t) rows (All-head (λ (x : Source R). x.given ≡ false) s sources waits) (none 0 s (omega arith)) pair.0.pending in
      let behind : flat_map (λ r. r) lists ≡ [] = none_left sources lists (All-tail (λ (x : Source R). x.given ≡ false) s sources waits) pair.1 (λ i d low. none (suc i) d (omega (arith, low))) in
      subst (λ xs. xs ++ flat_map (λ r. r) lists ≡ []) (sym here) behind

  -- The row at a place is taken out.
  pub taken : (sources now : List (Source R)) (lists : List Rows) (place : ℕ) (row : Row) → All (λ s. s.given ≡ false) sources → Pairwise Y sources lists → IsLeastBelow cmp shown sources (length sources) place row
      → length now ≡ length sources → ((i : ℕ) (d : Source R) → i ≢ place → slice_index_or now i d ≡ slice_index_or sources i d)
      → ((d : Source R) (rest : Rows) → left (slice_index_or sources place d).stream t rest → Ascends cmp rest → All (λ r. IsTrue (fit r)) rest → Y (slice_index_or now place d) rest)
      → (next : List Rows) × (merged cmp lists ≡ row ∷ merged cmp next) × Pairwise Y now next
  taken [] now lists place row waits pair best count same here = absurd (omega (arith, best.there))
  taken (s ∷ sources) [] lists place row waits pair best count same here = absurd (omega (arith, count))
  taken (s ∷ sources) (y ∷ now) [] place row waits pair best count same here = absurd pair
  taken (s ∷ sources) (y ∷ now) (rows ∷ lists) zero row waits pair best count same here =
      let parts = parted_some s.given (shown s.stream) (left s.stream t) rows row (All-head (λ (x : Source R). x.given ≡ false) s sources waits) (best.here s) pair.0.pending in
      let up : Ascends cmp (row ∷ parts.0) = subst (Ascends cmp) parts.1 pair.0.ascends in
      let fits : All (λ r. IsTrue (fit r)) (row ∷ parts.0) = subst (All (λ r. IsTrue (fit r))) parts.1 pair.0.fits in
      let behind : now ≡ sources = same_list sources now (omega (arith, count)) (λ i d. same (suc i) d (λ is. absurd (omega (arith, is)))) in (
        parts.0 ∷ lists,
        ap (λ xs. sort_by cmp (xs ++ flat_map (λ r. r) lists)) parts.1
            ∙ sort_least cmp row (parts.0 ++ flat_map (λ r. r) lists)
            (All-append (λ z. is_gt (cmp row z) ≡ false) parts.0 (flat_map (λ r. r) lists) up.0
            (all_least row sources lists (All-tail (λ (x : Source R). x.given ≡ false) s sources waits) pair.1 (λ i d other low is. best.least (suc i) d other (omega (arith, low)) is))),
        (here s parts.0 parts.2 up.1 (All-tail (λ r. IsTrue (fit r)) row parts.0 fits), subst (λ xs. Pairwise Y xs lists) (sym behind) pair.1),
      )
  taken (s ∷ sources) (y ∷ now) (rows ∷ lists) (suc place) row waits pair best count same here =
      let head : y ≡ s = same 0 s (λ is. absurd (omega (arith, is))) in
      let rest = taken sources now lists place row (All-tail (λ (x : Source R). x.given ≡ false) s sources waits) pair.1
      (record {
        there = omega (arith, best.there);
        here = best.here;
        before = λ i d other low is. best.before (suc i) d other (omega (arith, low)) is;
        least = λ i d other low is. best.least (suc i) d other (omega (arith, low)) is;
      }) (omega (arith, count)) (λ i d far. same (suc i) d (λ is. far (omega (arith, is)))) here in (
        rows ∷ rest.0,
        sort_skip cmp rows row (flat_map (λ r. r) lists) (flat_map (λ r. r) rest.0)
            (list_from (λ x. is_gt (cmp x row) ≡ true) s rows (All-head (λ (x : Source R). x.given ≡ false) s sources waits) pair.0
            (λ other behind is up. All-cons (λ x. is_gt (cmp x row) ≡ true) other behind (best.before 0 s other (omega arith) is) (all_greater cmp o other row behind (best.before 0 s other (omega arith) is) up.0)))
            rest.1,
        (subst (λ z. Y z rows) (sym head) pair.0, rest.2),
      )
