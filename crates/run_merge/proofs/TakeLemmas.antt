-- The first of the least records is given.
use Rattle.std.proofs.Common.{◌≡◌, ◌≢◌, inl, inr, ℕ, zero, suc, ◌+◌, ◌<◌, ◌≤◌, Bool, true, false, cond, All, IsTrue, List, [], ◌∷◌, ◌++◌, length, take, slice_index_or, Option, Some, None, is_some, refl, sym, ap, ◌∙◌, subst, arith, sum_by, Result, Ok, Err, IsErr, MatchResult, MatchOption}
use Rattle.std.proofs.lemmas.Bool.{cases_eq}
use Rattle.std.proofs.lemmas.List.Sums.{sum_by-cons}
use Rattle.std.specs.List.{flat_map}
use Rattle.std.specs.Cmp.{IsTotalOrder}
use Rattle.std.specs.declared.cmp.Ordering.{Ordering}
use Rattle.flow_outside.specs.Blocks.{Blocks}
use Rattle.flow_types.specs.Bags.{sort_by}
use Rattle.segment_core.specs.Segments.{SegmentView, segment_sum}
use Rattle.segment_core.proofs.Weighing.{segment_sum-append}
use Rattle.flow_outside.specs.declared.failure.StreamFault.{StreamFault}
use Rattle.paged_view.specs.Streams.{Advances}
use Rattle.run_merge.specs.Merging.{Ascends, IsLeastBelow, Merges, Pending, Row, Rows, ShowsFitting, WaitsFitting, merged, most_of, number_at, number_of_given, shown_at, yields}
use Rattle.run_merge.specs.declared.source.Source.{Source}
use Rattle.run_merge.specs.Prefixes.{KeepsPrefix}
use Rattle.run_merge.proofs.MergeLemmas.{none_left, taken}
use Rattle.run_merge.proofs.PlaceLemmas.{first_of, one_sum}

shown_there : {R : Type 0} (shown : R → Option Row) (sources : List (Source R)) (place : ℕ) (seen : Option Row) → place < length sources → ((d : Source R) → shown (slice_index_or sources place d).stream ≡ seen) → shown_at shown sources (Some place) ≡ seen
shown_there shown [] place seen low is = absurd (omega (arith, low))
shown_there shown (s ∷ sources) zero seen low is = is s
shown_there shown (s ∷ sources) (suc place) seen low is = shown_there shown sources place seen (omega (arith, low)) is

pub shown_nowhere : {R : Type 0} (shown : R → Option Row) (sources : List (Source R)) → shown_at shown sources None ≡ None
shown_nowhere shown [] = refl
shown_nowhere shown (s ∷ sources) = refl

pub all_shown : {R : Type 0} (fit : Row → Bool) (prefix_of : Row → List ℕ) (shown : R → Option Row) (sources : List (Source R)) → All (WaitsFitting fit prefix_of shown) sources → All (λ (s : Source R). s.given ≡ false) sources → All (λ (s : Source R). ShowsFitting fit (shown s.stream)) sources
all_shown fit prefix_of shown sources fitting waits = λ k d low. (fitting k d low (waits k d low)).0

pub all_kept : {R : Type 0} (fit : Row → Bool) (prefix_of : Row → List ℕ) (shown : R → Option Row) (sources : List (Source R)) → All (WaitsFitting fit prefix_of shown) sources → All (λ (s : Source R). s.given ≡ false) sources → All (λ (s : Source R). KeepsPrefix prefix_of s.prefix (shown s.stream)) sources
all_kept fit prefix_of shown sources fitting waits = λ k d low. (fitting k d low (waits k d low)).1

module _ {R : Type 0} (sources now : List (Source R)) (place : ℕ) (low : place < length sources) (count : length now ≡ length sources)
    (same : (i : ℕ) (d : Source R) → i ≢ place → slice_index_or now i d ≡ slice_index_or sources i d)
    (stream : (d : Source R) → (slice_index_or now place d).stream ≡ (slice_index_or sources place d).stream) (given : (d : Source R) → (slice_index_or now place d).given ≡ true) where
  -- what is so of each stream
  pub all_streams : (P : R → Type 0) → All (λ (s : Source R). P s.stream) sources → All (λ (s : Source R). P s.stream) now
  all_streams P all = λ k d inside. elim (cases_eq k place) [
    | inl is ↦ subst (λ j. P (slice_index_or now j d).stream) (sym is) (subst P (sym (stream d)) (all place d low))
    | inr far ↦ subst (λ (s : Source R). P s.stream) (sym (same k d far)) (all k d (omega (arith, inside, count)))
  ]

  pub all_fitting : (fit : Row → Bool) (prefix_of : Row → List ℕ) (shown : R → Option Row) → All (WaitsFitting fit prefix_of shown) sources → All (WaitsFitting fit prefix_of shown) now
  all_fitting fit prefix_of shown all = λ k d inside. elim (cases_eq k place) [
    | inl is ↦ subst (λ j. WaitsFitting fit prefix_of shown (slice_index_or now j d)) (sym is) (λ waits. let wrong : true ≡ false = sym (given d) ∙ waits in cc)
    | inr far ↦ subst (WaitsFitting fit prefix_of shown) (sym (same k d far)) (all k d (omega (arith, inside, count)))
  ]

  pub sum_of_streams : (f : R → ℕ) → sum_by (λ (s : Source R). f s.stream) now ≡ sum_by (λ (s : Source R). f s.stream) sources
  sum_of_streams f =
      let d : Source R = first_of sources place low in
      omega (arith, one_sum (λ (s : Source R). f s.stream) sources now place d low count same, ap f (stream d))

  pub sum_less : (shown : R → Option Row) (most : R → ℕ) (row : Row) → ((d : Source R) → shown (slice_index_or sources place d).stream ≡ Some row) → All (λ (s : Source R). s.given ≡ false) sources
      → sum_by (most_of shown most) now < sum_by (most_of shown most) sources
  sum_less shown most row here waits =
      let d : Source R = first_of sources place low in
      let before : most_of shown most (slice_index_or sources place d) ≡ most (slice_index_or sources place d).stream + 1 =
      ap (λ b. most (slice_index_or sources place d).stream + cond b 0 (cond (is_some (shown (slice_index_or sources place d).stream)) 1 0)) (waits place d low)
      ∙ ap (λ x. most (slice_index_or sources place d).stream + cond (is_some x) 1 0) (here d) in
      let after : most_of shown most (slice_index_or now place d) ≡ most (slice_index_or sources place d).stream + 0 =
      ap (λ b. most (slice_index_or now place d).stream + cond b 0 (cond (is_some (shown (slice_index_or now place d).stream)) 1 0)) (given d)
      ∙ ap (λ r. most r + 0) (stream d) in
      omega (arith, one_sum (most_of shown most) sources now place d low count same, before, after)

  pub shown_now : (shown : R → Option Row) (row : Row) → ((d : Source R) → shown (slice_index_or sources place d).stream ≡ Some row) → shown_at shown now (Some place) ≡ Some row
  shown_now shown row here = shown_there shown now place (Some row) (omega (arith, low, count)) (λ d. ap shown (stream d) ∙ here d)

  module _ (cmp : Row → Row → Ordering) (o : IsTotalOrder cmp) (fit : Row → Bool) (shown : R → Option Row) (left : R → Option Blocks → Rows → Type 0) (t : Option Blocks) where
    given_yields : (d : Source R) (rest : Rows) → left (slice_index_or sources place d).stream t rest → Ascends cmp rest → All (λ r. IsTrue (fit r)) rest → yields cmp fit shown left t (slice_index_or now place d) rest
    given_yields d rest l up fits = record {
      pending = go (slice_index_or now place d).given (given d) (subst (λ q. left q t rest) (sym (stream d)) l);
      ascends = up;
      fits = fits;
    }
      where
        go : (b : Bool) → b ≡ true → left (slice_index_or now place d).stream t rest → Pending b (shown (slice_index_or now place d).stream) (left (slice_index_or now place d).stream t) rest
        go true is l = l
        go false is l = cc

    pub advances_taken : (row : Row) → All (λ (s : Source R). s.given ≡ false) sources → IsLeastBelow cmp shown sources (length sources) place row
        → (rows : Rows) → Merges cmp (yields cmp fit shown left t) sources rows → Advances rows true (shown_at shown now (Some place)) (Merges cmp (yields cmp fit shown left t) now)
    advances_taken row waits best rows m =
        let one = taken cmp o fit shown left t sources now m.0 place row waits m.1 best count same given_yields in
        subst (λ rs. Advances rs true (shown_at shown now (Some place)) (Merges cmp (yields cmp fit shown left t) now)) (sym (m.2 ∙ one.1))
        (shown_now shown row best.here, (one.0, one.2, refl))

pub advances_ended : {R : Type 0} (cmp : Row → Row → Ordering) (o : IsTotalOrder cmp) (fit : Row → Bool) (shown : R → Option Row) (left : R → Option Blocks → Rows → Type 0) (t : Option Blocks) (sources : List (Source R))
    → All (λ (s : Source R). s.given ≡ false) sources → ((i : ℕ) (d : Source R) → i < length sources → shown (slice_index_or sources i d).stream ≡ None)
    → (rows : Rows) → Merges cmp (yields cmp fit shown left t) sources rows → Advances rows false (shown_at shown sources None) (Merges cmp (yields cmp fit shown left t) sources)
advances_ended cmp o fit shown left t sources waits none rows m =
    let empty : merged cmp m.0 ≡ [] = ap (sort_by cmp) (none_left cmp o fit shown left t sources m.0 waits m.1 none) in
    subst (λ rs. Advances rs false (shown_at shown sources None) (Merges cmp (yields cmp fit shown left t) sources)) (sym (m.2 ∙ empty))
    (shown_nowhere shown sources, (m.0, m.1, sym empty))

-- what all streams hold weighs what each does
pub weigh_flat : {S : Type 0} (h : ℕ → ℕ → ℕ) (f : S → List SegmentView) (xs : List S) → segment_sum h (flat_map f xs) ≡ sum_by (λ s. segment_sum h (f s)) xs
weigh_flat h f [] = refl
weigh_flat h f (x ∷ xs) = omega (arith, segment_sum-append h (f x) (flat_map f xs), weigh_flat h f xs, sum_by-cons (λ s. segment_sum h (f s)) x xs)

-- after a fault nothing is shown
pub none_after : {R : Type 0} (shown : R → Option Row) (sources : List (Source R)) (answer : Result Bool StreamFault) → IsErr answer
    → MatchResult answer (λ more. is_some (shown_at shown sources None) ≡ more) (λ _. shown_at shown sources None ≡ None)
none_after shown sources (Ok more) wrong = cc
none_after shown sources (Err fault) is = shown_nowhere shown sources

-- past the end nothing is shown
pub shown_past : {R : Type 0} (shown : R → Option Row) (sources : List (Source R)) (place : ℕ) → length sources ≤ place → shown_at shown sources (Some place) ≡ None
shown_past shown [] place past = refl
shown_past shown (s ∷ sources) zero past = absurd (omega (arith, past))
shown_past shown (s ∷ sources) (suc place) past = shown_past shown sources place (omega (arith, past))

pub shown_in : {R : Type 0} (shown : R → Option Row) (sources : List (Source R)) (place : ℕ) (e : Source R) → place < length sources → shown_at shown sources (Some place) ≡ shown (slice_index_or sources place e).stream
shown_in shown [] place e low = absurd (omega (arith, low))
shown_in shown (s ∷ sources) zero e low = refl
shown_in shown (s ∷ sources) (suc place) e low = shown_in shown sources place e (omega (arith, low))

pub number_past : {R : Type 0} (number : R → ℕ) (sources : List (Source R)) (place : ℕ) → length sources ≤ place → number_at number sources (Some place) ≡ 0
number_past number [] place past = refl
number_past number (s ∷ sources) zero past = absurd (omega (arith, past))
number_past number (s ∷ sources) (suc place) past = number_past number sources place (omega (arith, past))

pub number_in : {R : Type 0} (number : R → ℕ) (sources : List (Source R)) (place : ℕ) (e : Source R) → place < length sources → number_at number sources (Some place) ≡ number (slice_index_or sources place e).stream
number_in number [] place e low = absurd (omega (arith, low))
number_in number (s ∷ sources) zero e low = refl
number_in number (s ∷ sources) (suc place) e low = number_in number sources place e (omega (arith, low))

-- the first whose record was given, where none before it was
pub first_given : {R : Type 0} (number : R → ℕ) (sources : List (Source R)) (at : ℕ) (e : Source R) → at < length sources
    → ((i : ℕ) (d : Source R) → i < at → (slice_index_or sources i d).given ≡ false) → (slice_index_or sources at e).given ≡ true
    → number_of_given number sources ≡ number (slice_index_or sources at e).stream
first_given number [] at e low before here = absurd (omega (arith, low))
first_given number (s ∷ sources) zero e low before here = ap (λ b. cond b (number s.stream) (number_of_given number sources)) here
first_given number (s ∷ sources) (suc at) e low before here =
    ap (λ b. cond b (number s.stream) (number_of_given number sources)) (before 0 s (omega arith))
    ∙ first_given number sources at e (omega (arith, low)) (λ i d less. before (suc i) d (omega (arith, less))) here

-- a list before another, as many as it has
pub front_of : {X : Type 0} (n : ℕ) (xs ys : List X) → n ≡ length xs → take n (xs ++ ys) ≡ xs
front_of zero [] ys is = refl
front_of zero (x ∷ xs) ys is = absurd (omega (arith, is))
front_of (suc n) [] ys is = absurd (omega (arith, is))
front_of (suc n) (x ∷ xs) ys is = ap (λ rest. x ∷ rest) (front_of n xs ys (omega (arith, is)))

-- the last source was taken out, or there was none
pub last_out : {R : Type 0} (old new : List (Source R)) (answer : Option R) (source : Source R) (stream : R) → answer ≡ Some stream → old ≡ new ++ source ∷ [] → source.stream ≡ stream
    → MatchOption answer ((old ≡ []) × (new ≡ [])) (λ stream. (x : Source R) × (old ≡ new ++ x ∷ []) × (x.stream ≡ stream))
last_out old new None source stream none is same = cc
last_out {R = R} old new (Some it) source stream some is same =
    let equal : it ≡ stream = cc in
    (source, is, same ∙ sym equal)

take_nil : {X : Type 0} (k : ℕ) (none : List X) → none ≡ [] → take k none ≡ []
take_nil zero none is = refl
take_nil (suc k) [] is = refl
take_nil (suc k) (x ∷ xs) is = cc

pub none_out : {R : Type 0} (old new : List (Source R)) (answer : Option R) (n m : ℕ) → answer ≡ None → n ≡ 0 → n ≡ length old → new ≡ take m old
    → MatchOption answer ((old ≡ []) × (new ≡ [])) (λ stream. (x : Source R) × (old ≡ new ++ x ∷ []) × (x.stream ≡ stream))
none_out [] new None zero m none is count rest = (refl, rest ∙ take_nil m [] refl)
none_out [] new None (suc n) m none is count rest = absurd (omega (arith, is))
none_out (x ∷ xs) new None n m none is count rest = absurd (omega (arith, is, count))
none_out old new (Some it) n m none is count rest = cc
