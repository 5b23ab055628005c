-- The least row so far, and one more.
use Rattle.std.proofs.Common.{◌≡◌, ◌≢◌, inl, inr, ℕ, zero, suc, ◌+◌, ◌<◌, true, false, List, [], ◌∷◌, length, slice_index_or, Option, Some, None, refl, sym, ap, ◌∙◌, subst, arith}
use Rattle.std.proofs.lemmas.Bool.{cases_eq}
use Rattle.std.specs.Cmp.{IsTotalOrder}
use Rattle.std.specs.Ordering.{is_gt, ordering_reverse}
use Rattle.std.specs.declared.cmp.Ordering.{Ordering}
use Rattle.std.specs.declared.cmp.Ordering.TheVariants.{Less, Equal, Greater}
use Rattle.std.proofs.lemmas.Cmp.{tied_itself}
use Rattle.run_merge.specs.Merging.{IsBestBelow, Row}
use Rattle.run_merge.specs.declared.source.Source.{Source}
use Rattle.run_merge.proofs.OrderLemmas.{not_greater_on, greater_on}

below : (i n : ℕ) → i < n + 1 → i ≢ n → i < n
below i n less far = elim (cases_eq i n) [
  | inl is ↦ absurd (far is)
  | inr apart ↦ omega (arith, less, apart)
]

one_of : (a b : Row) (o : Option Row) → o ≡ Some a → o ≡ Some b → b ≡ a
one_of a b o is_a is_b = cc

none_of : (a : Row) (o : Option Row) → o ≡ None → o ≡ Some a → ⊥
none_of a o none some = cc

pub any_default : {S : Type 0} (xs : List S) (at : ℕ) (d e : S) → at < length xs → slice_index_or xs at d ≡ slice_index_or xs at e
any_default [] at d e low = absurd (omega (arith, low))
any_default (x ∷ xs) zero d e low = refl
any_default (x ∷ xs) (suc at) d e low = any_default xs at d e (omega (arith, low))

-- the row that is seen at a place, whatever stands past the end
pub seen_at : {R : Type 0} (shown : R → Option Row) (sources : List (Source R)) (at : ℕ) (e : Source R) (row : Row) (seen : Option Row) → at < length sources
    → seen ≡ shown (slice_index_or sources at e).stream → seen ≡ Some row → (d : Source R) → shown (slice_index_or sources at d).stream ≡ Some row
seen_at {R = R} shown sources at e row seen low there is d = ap (λ (s : Source R). shown s.stream) (any_default sources at d e low) ∙ sym there ∙ is

module _ {R : Type 0} (cmp : Row → Row → Ordering) (o : IsTotalOrder cmp) (shown : R → Option Row) (sources : List (Source R)) (at : ℕ) where
  itself : (row : Row) → is_gt (cmp row row) ≡ false
  itself row = ap is_gt (tied_itself o row)

  pub first_best : (row : Row) → ((d : Source R) → shown (slice_index_or sources at d).stream ≡ Some row) → IsBestBelow cmp shown sources at None → IsBestBelow cmp shown sources (at + 1) (Some at)
  first_best row here none = (
    row,
    record {
      there = omega arith;
      here = here;
      before = λ i d other less is. absurd (none_of other (shown (slice_index_or sources i d).stream) (none i d less) is);
      least = λ i d other less is. elim (cases_eq i at) [
        | inl same ↦ let equal : other ≡ row = one_of row other (shown (slice_index_or sources at d).stream) (here d) (subst (λ j. shown (slice_index_or sources j d).stream ≡ Some other) same is) in
            subst (λ r. is_gt (cmp row r) ≡ false) (sym equal) (itself row)
        | inr far ↦ absurd (none_of other (shown (slice_index_or sources i d).stream) (none i d (below i at less far)) is)
      ];
    },
  )

  pub none_more : ((d : Source R) → shown (slice_index_or sources at d).stream ≡ None) → (best : Option ℕ) → IsBestBelow cmp shown sources at best → IsBestBelow cmp shown sources (at + 1) best
  none_more here None none = λ i d less. elim (cases_eq i at) [
    | inl same ↦ subst (λ j. shown (slice_index_or sources j d).stream ≡ None) (sym same) (here d)
    | inr far ↦ none i d (below i at less far)
  ]
  none_more here (Some place) best = (
    best.0,
    record {
      there = omega (arith, best.1.there);
      here = best.1.here;
      before = best.1.before;
      least = λ i d other less is. elim (cases_eq i at) [
        | inl same ↦ absurd (none_of other (shown (slice_index_or sources at d).stream) (here d) (subst (λ j. shown (slice_index_or sources j d).stream ≡ Some other) same is))
        | inr far ↦ best.1.least i d other (below i at less far) is
      ];
    },
  )

  -- the row shown here is less than the least so far
  pub lesser : (row first : Row) (place : ℕ) (e : Source R) → ((d : Source R) → shown (slice_index_or sources at d).stream ≡ Some row) → shown (slice_index_or sources place e).stream ≡ Some first → cmp row first ≡ Less
      → IsBestBelow cmp shown sources at (Some place) → IsBestBelow cmp shown sources (at + 1) (Some at)
  lesser row first place e here there less best = (
    row,
    record {
      there = omega arith;
      here = here;
      before = λ i d other low is. above other (best.1.least i d other low is);
      least = λ i d other low is. elim (cases_eq i at) [
        | inl same ↦ let equal : other ≡ row = one_of row other (shown (slice_index_or sources at d).stream) (here d) (subst (λ j. shown (slice_index_or sources j d).stream ≡ Some other) same is) in
            subst (λ r. is_gt (cmp row r) ≡ false) (sym equal) (itself row)
        | inr far ↦ not_greater_on cmp o row best.0 other less_best (best.1.least i d other (below i at low far) is)
      ];
    },
  )
    where
      same_first : best.0 ≡ first
      same_first = one_of first best.0 (shown (slice_index_or sources place e).stream) there (best.1.here e)

      less_best : is_gt (cmp row best.0) ≡ false
      less_best = subst (λ r. is_gt (cmp row r) ≡ false) (sym same_first) (ap is_gt less)

      over : is_gt (cmp best.0 row) ≡ true
      over = subst (λ r. is_gt (cmp r row) ≡ true) (sym same_first) (ap is_gt (o.antisymm first row ∙ ap ordering_reverse less))

      above : (other : Row) → is_gt (cmp best.0 other) ≡ false → is_gt (cmp other row) ≡ true
      above other not = greater_on cmp o best.0 other row over not

  -- it isn't
  pub no_lesser : (row first : Row) (place : ℕ) (e : Source R) → ((d : Source R) → shown (slice_index_or sources at d).stream ≡ Some row) → shown (slice_index_or sources place e).stream ≡ Some first → (cmp row first ≡ Less → ⊥)
      → IsBestBelow cmp shown sources at (Some place) → IsBestBelow cmp shown sources (at + 1) (Some place)
  no_lesser row first place e here there not best = (
    best.0,
    record {
      there = omega (arith, best.1.there);
      here = best.1.here;
      before = best.1.before;
      least = λ i d other low is. elim (cases_eq i at) [
        | inl same ↦ let equal : other ≡ row = one_of row other (shown (slice_index_or sources at d).stream) (here d) (subst (λ j. shown (slice_index_or sources j d).stream ≡ Some other) same is) in
            subst (λ r. is_gt (cmp best.0 r) ≡ false) (sym equal) (subst (λ r. is_gt (cmp r row) ≡ false) (sym same_first) (turned (cmp row first) refl))
        | inr far ↦ best.1.least i d other (below i at low far) is
      ];
    },
  )
    where
      same_first : best.0 ≡ first
      same_first = one_of first best.0 (shown (slice_index_or sources place e).stream) there (best.1.here e)

      turned : (r : Ordering) → cmp row first ≡ r → is_gt (cmp first row) ≡ false
      turned Less is = absurd (not is)
      turned Equal is = ap is_gt (o.antisymm first row ∙ ap ordering_reverse is)
      turned Greater is = ap is_gt (o.antisymm first row ∙ ap ordering_reverse is)
