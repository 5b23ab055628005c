-- What seats swapped stays while they meet, and what segments of one size weigh.
use Rattle.std.proofs.Common.{◌≡◌, ℕ, zero, suc, ◌+◌, ◌<◌, Bool, true, false, ◌||◌, List, [], ◌∷◌, ◌++◌, ◌∙◌, ap, sym, subst, length, reverse, sum_by, All, refl, arith, true≢false}
use Rattle.std.proofs.lemmas.List.Elements.{All-nil, All-head, All-tail}
use Rattle.std.proofs.lemmas.List.Sorted.{All-permutation, IsPermutation-reverse}
use Rattle.std.proofs.lemmas.List.Sums.{sum_by-append, sum_by-cons}
use Rattle.segment_core.specs.Segments.{SegmentView, segment_sum}
use Rattle.segment_core.proofs.Weighing.{segment_sum-cons, segment_sum-reverse}
use Rattle.post_table.specs.Seats.{ids_of, size_of}
use Rattle.post_table.specs.Views.{both_of, is_among, learned, looked}
use Rattle.post_table.specs.declared.view.Moved.{Moved}
use Rattle.post_table.specs.declared.view.View.{View}
use Rattle.post_table.proofs.LogLemmas.{among-append}
use Rattle.worked_post.specs.Swaps.{put_in, took_out}

pub put_in_both : (h : ℕ → ℕ → ℕ) (size x : ℕ) (a b new : View) → new ≡ learned (looked x (both_of a b)) → put_in h size new ≡ put_in h size a + put_in h size b
put_in_both h size x a b new e =
    let g : ℕ → ℕ = λ id. h id size in
    omega (arith, ap (λ (u : View). put_in h size u) e, sum_by-append (λ (m : Moved). g m.went_in) a.posted b.posted, sum_by-append (λ (m : Moved). g m.went_in) a.took b.took)

pub took_out_both : (h : ℕ → ℕ → ℕ) (size x : ℕ) (a b new : View) → new ≡ learned (looked x (both_of a b)) → took_out h size new ≡ took_out h size a + took_out h size b
took_out_both h size x a b new e =
    let g : ℕ → ℕ = λ id. h id size in
    omega (arith, ap (λ (u : View). took_out h size u) e, sum_by-append (λ (m : Moved). g m.came_out) a.posted b.posted, sum_by-append (λ (m : Moved). g m.came_out) a.took b.took)

-- pages of one size have the size of the first
pub sized_as : (n : ℕ) (pages : List SegmentView) → All (λ (p : SegmentView). length p.bytes ≡ n) pages → All (λ (p : SegmentView). length p.bytes ≡ size_of pages) pages
sized_as n [] all = All-nil (λ (p : SegmentView). length p.bytes ≡ 0)
sized_as n (p ∷ pages) all =
    subst (λ (z : ℕ). All (λ (q : SegmentView). length q.bytes ≡ z) (p ∷ pages)) (sym (All-head (λ (q : SegmentView). length q.bytes ≡ n) p pages all)) all

pub size_is : (n : ℕ) (pages : List SegmentView) → 0 < length pages → All (λ (p : SegmentView). length p.bytes ≡ n) pages → size_of pages ≡ n
size_is n [] some_page all = absurd (omega arith)
size_is n (p ∷ pages) some_page all = All-head (λ (q : SegmentView). length q.bytes ≡ n) p pages all

-- ids weigh what their segments do
ids_weigh : (h : ℕ → ℕ → ℕ) (n : ℕ) (pages : List SegmentView) → All (λ (p : SegmentView). length p.bytes ≡ n) pages → sum_by (λ (i : ℕ). h i n) (ids_of pages) ≡ segment_sum h pages
ids_weigh h n [] all = refl
ids_weigh h n (p ∷ pages) all =
    let size : length p.bytes ≡ n = All-head (λ (q : SegmentView). length q.bytes ≡ n) p pages all in
    omega (arith, ap (h p.id) size, sum_by-cons (λ (i : ℕ). h i n) p.id (ids_of pages), segment_sum-cons h p pages, ids_weigh h n pages (All-tail (λ (q : SegmentView). length q.bytes ≡ n) p pages all))

pub ids_weigh-reverse : (h : ℕ → ℕ → ℕ) (n : ℕ) (pages : List SegmentView) → All (λ (p : SegmentView). length p.bytes ≡ n) pages → sum_by (λ (i : ℕ). h i n) (ids_of (reverse pages)) ≡ segment_sum h pages
ids_weigh-reverse h n pages all =
    ids_weigh h n (reverse pages) (All-permutation (λ (p : SegmentView). length p.bytes ≡ n) pages (reverse pages) (IsPermutation-reverse pages) all) ∙ segment_sum-reverse h pages

pub none_weighs : (h : ℕ → ℕ → ℕ) (pages : List SegmentView) → length pages ≡ 0 → segment_sum h pages ≡ 0
none_weighs h [] e = refl
none_weighs h (p ∷ pages) e = absurd (omega arith)

or_true : (a : Bool) → (a || true) ≡ true
or_true true = refl
or_true false = refl

or_first : (a b : Bool) → a ≡ true → (a || b) ≡ true
or_first true b e = refl
or_first false b e = absurd (true≢false (sym e))

-- both workers' lists are here once both were met
pub both_met : (xs : List ℕ) (i : ℕ) → i < 2 → is_among i ((xs ++ 0 ∷ []) ++ 1 ∷ []) ≡ true
both_met xs zero near =
    among-append zero (xs ++ 0 ∷ []) (1 ∷ []) ∙ or_first (is_among zero (xs ++ 0 ∷ [])) (is_among zero (1 ∷ [])) (among-append zero xs (0 ∷ []) ∙ or_true (is_among zero xs))
both_met xs (suc zero) near = among-append (suc zero) (xs ++ 0 ∷ []) (1 ∷ []) ∙ or_true (is_among (suc zero) (xs ++ 0 ∷ []))
both_met xs (suc (suc i)) near = absurd (omega arith)
