-- Lemmas on what pages weigh, for this crate and for all that hold segments above it.
use Rattle.std.proofs.Common.{◌≡◌, ℕ, ◌+◌, ◌<◌, ◌≤◌, cond, not, ◌==◌, List, [], ◌∷◌, ◌++◌, length, reverse, replicate, map, zero, suc, ltb, refl, ap, arith}
use Rattle.std.specs.Prelude.{Option, Some, None, option_to_list, IsPermutation}
use Rattle.std.specs.Option.{option_map_or}
use Rattle.std.proofs.lemmas.List.Sums.{sum_by-cons, sum_by-append, sum_by_push}
use Rattle.std.proofs.lemmas.List.Sorted.{sum_by-IsPermutation, IsPermutation-reverse}
use Rattle.std.proofs.lemmas.Bool.Decides.{nat_tests}
use Rattle.std.proofs.lemmas.Grind.{common_steps}
use Rattle.std.proofs.lemmas.List.{length-replicate}
use Rattle.segment_core.specs.Segments.{SegmentView, segment_sum, copies, count_other_size, blank_page}
use Rattle.std.specs.List.{range_with_len}
use Rattle.segment_core.specs.Lending.{with_bytes}

pub segment_sum-cons : (h : ℕ → ℕ → ℕ) (p : SegmentView) (ps : List SegmentView) → segment_sum h (p ∷ ps) ≡ h p.id (length p.bytes) + segment_sum h ps
segment_sum-cons h p ps = sum_by-cons (λ q. h q.id (length q.bytes)) p ps

pub segment_sum-append : (h : ℕ → ℕ → ℕ) (ps qs : List SegmentView) → segment_sum h (ps ++ qs) ≡ segment_sum h ps + segment_sum h qs
segment_sum-append h ps qs = sum_by-append (λ q. h q.id (length q.bytes)) ps qs

pub segment_sum-push : (h : ℕ → ℕ → ℕ) (ps : List SegmentView) (p : SegmentView) → segment_sum h (ps ++ p ∷ []) ≡ segment_sum h ps + h p.id (length p.bytes)
segment_sum-push h ps p = sum_by_push (λ q. h q.id (length q.bytes)) ps p

pub segment_sum-IsPermutation : (h : ℕ → ℕ → ℕ) (ps qs : List SegmentView) → IsPermutation ps qs → segment_sum h qs ≡ segment_sum h ps
segment_sum-IsPermutation h ps qs moved = sum_by-IsPermutation (λ q. h q.id (length q.bytes)) ps qs moved

pub segment_sum-reverse : (h : ℕ → ℕ → ℕ) (ps : List SegmentView) → segment_sum h (reverse ps) ≡ segment_sum h ps
segment_sum-reverse h ps = segment_sum-IsPermutation h ps (reverse ps) (IsPermutation-reverse ps)

-- segments that moved from the end of one list to the end of another
pub segment_sum-moved : (h : ℕ → ℕ → ℕ) (from to from' to' : List SegmentView) → from' ++ reverse to' ≡ from ++ reverse to → segment_sum h from' + segment_sum h to' ≡ segment_sum h from + segment_sum h to
segment_sum-moved h from to from' to' moved =
    omega (arith, segment_sum-append h from (reverse to), segment_sum-append h from' (reverse to'), segment_sum-reverse h to, segment_sum-reverse h to', ap (segment_sum h) moved)

pub segment_sum-one : (h : ℕ → ℕ → ℕ) (p : SegmentView) → segment_sum h (p ∷ []) ≡ h p.id (length p.bytes)
segment_sum-one h p = omega arith

-- what an answer that may be none weighs
pub segment_sum-option_to_list : (h : ℕ → ℕ → ℕ) (o : Option SegmentView) → segment_sum h (option_to_list o) ≡ option_map_or (λ p. h p.id (length p.bytes)) o 0
segment_sum-option_to_list h None = refl
segment_sum-option_to_list h (Some p) = segment_sum-one h p

-- a page that was written has as many bytes as it had, and weighs what it weighed
pub length-with_bytes : (p : SegmentView) (ws : List ℕ) → length (with_bytes p ws).bytes ≡ length p.bytes
length-with_bytes p ws = grind (arith, common_steps)

pub segment_sum-with_bytes : (h : ℕ → ℕ → ℕ) (p : SegmentView) (ws : List ℕ) → segment_sum h (with_bytes p ws ∷ []) ≡ segment_sum h (p ∷ [])
segment_sum-with_bytes h p ws = ap (λ n. 0 + h p.id n) (length-with_bytes p ws)

-- what weighs one a page weighs their number
pub segment_sum-ones : (ps : List SegmentView) → segment_sum (λ _ _. 1) ps ≡ length ps
segment_sum-ones [] = refl
segment_sum-ones (p ∷ ps) = omega (arith, segment_sum-cons (λ _ _. 1) p ps, segment_sum-ones ps)

-- no page has another size exactly where each has this one
pub fits_first : (size : ℕ) (p : SegmentView) (ps : List SegmentView) → count_other_size size (p ∷ ps) ≡ 0 → length p.bytes ≡ size
fits_first size p ps none =
    let e = segment_sum-cons (λ _ n. cond (not (n == size)) 1 0) p ps in grind (arith, nat_tests)

pub fits_rest : (size : ℕ) (p : SegmentView) (ps : List SegmentView) → count_other_size size (p ∷ ps) ≡ 0 → count_other_size size ps ≡ 0
fits_rest size p ps none = omega (arith, segment_sum-cons (λ _ n. cond (not (n == size)) 1 0) p ps)

-- how many of the pages have an id below n
abbrev pub counted : ℕ → List SegmentView → ℕ
counted zero ps = 0
counted (suc n) ps = counted n ps + copies n ps

counted-nil : (n : ℕ) → counted n [] ≡ 0
counted-nil zero = refl
counted-nil (suc n) = omega (arith, counted-nil n)

counted-cons : (n : ℕ) (p : SegmentView) (ps : List SegmentView) → counted n (p ∷ ps) ≡ cond (ltb p.id n) 1 0 + counted n ps
counted-cons zero p ps = grind (arith, nat_tests)
counted-cons (suc n) p ps =
    let e = counted-cons n p ps in
    let f = segment_sum-cons (λ i _. cond (i == n) 1 0) p ps in
    grind (arith, nat_tests)

-- where every id is below n, each page is counted
pub counted_all : (n : ℕ) (ps : List SegmentView) → ((id : ℕ) → n ≤ id → copies id ps ≡ 0) → counted n ps ≡ length ps
counted_all n [] known = counted-nil n
counted_all n (p ∷ ps) known =
    let first = segment_sum-cons (λ i _. cond (i == p.id) 1 0) p ps in
    let here = known p.id in
    let below : p.id < n = grind (arith, nat_tests) in
    let rest = counted_all n ps (λ id past. omega (arith, known id past, segment_sum-cons (λ i _. cond (i == id) 1 0) p ps)) in
    let e = counted-cons n p ps in
    grind (arith, nat_tests)

pub counted-le : (n : ℕ) (ps : List SegmentView) → ((id : ℕ) → copies id ps ≤ 1) → counted n ps ≤ n
counted-le zero ps once = omega arith
counted-le (suc n) ps once = omega (arith, counted-le n ps once, once n)

pub counted_is : (n : ℕ) (ps : List SegmentView) → ((id : ℕ) → id < n → copies id ps ≡ 1) → counted n ps ≡ n
counted_is zero ps once = refl
counted_is (suc n) ps once = omega (arith, counted_is n ps (λ id below. once id (omega arith)), once n (omega arith))

-- the pages of a new pool
pub copies_past-blank_pages : (size id a n : ℕ) → a + n ≤ id → copies id (map (blank_page size) (range_with_len a n)) ≡ 0
copies_past-blank_pages size id a zero past = refl
copies_past-blank_pages size id a (suc n) past =
    let e = segment_sum-cons (λ i _. cond (i == id) 1 0) (blank_page size a) (map (blank_page size) (range_with_len (a + 1) n)) in
    let rest = copies_past-blank_pages size id (a + 1) n (omega arith) in
    grind (arith, nat_tests)

copies_before-blank_pages : (size id a n : ℕ) → id < a → copies id (map (blank_page size) (range_with_len a n)) ≡ 0
copies_before-blank_pages size id a zero before = refl
copies_before-blank_pages size id a (suc n) before =
    let e = segment_sum-cons (λ i _. cond (i == id) 1 0) (blank_page size a) (map (blank_page size) (range_with_len (a + 1) n)) in
    let rest = copies_before-blank_pages size id (a + 1) n (omega arith) in
    grind (arith, nat_tests)

pub copies-blank_pages : (size id a n : ℕ) → a ≤ id → id < a + n → copies id (map (blank_page size) (range_with_len a n)) ≡ 1
copies-blank_pages size id a zero from before = absurd (omega arith)
copies-blank_pages size id a (suc n) from before =
    let e = segment_sum-cons (λ i _. cond (i == id) 1 0) (blank_page size a) (map (blank_page size) (range_with_len (a + 1) n)) in
    let here = copies_before-blank_pages size id (a + 1) n in
    let rest = copies-blank_pages size id (a + 1) n in
    grind (arith, nat_tests)

pub count_other_size-blank_pages : (size a n : ℕ) → count_other_size size (map (blank_page size) (range_with_len a n)) ≡ 0
count_other_size-blank_pages size a zero = refl
count_other_size-blank_pages size a (suc n) =
    let e = segment_sum-cons (λ _ m. cond (not (m == size)) 1 0) (blank_page size a) (map (blank_page size) (range_with_len (a + 1) n)) in
    let zeros : List ℕ = replicate size 0 in
    let long : length zeros ≡ size = length-replicate size 0 in
    let rest = count_other_size-blank_pages size (a + 1) n in
    grind (arith, nat_tests)
