-- Lemmas on the sizes of pages, and on how many of them a record touches.
use Rattle.std.proofs.Common.{◌≡◌, ℕ, zero, suc, ◌+◌, ◌-◌, ◌<◌, ◌≤◌, true, false, cond, nat_lt, nat_le, List, [], ◌∷◌, ◌++◌, map, length, refl, sym, ap, ◌∙◌, arith, length-append, inl, inr, subst}
use Rattle.std.proofs.lemmas.Bool.{cases_lt}
use Rattle.std.proofs.lemmas.Bool.Decides.{nat_tests}
use Rattle.std.proofs.lemmas.Grind.{flat_map-append}
use Rattle.segment_core.specs.Segments.{SegmentView}
use Rattle.paged_view.specs.Pages.{used_bytes, all_used_bytes}
use Rattle.paged_view.specs.Reading.{has_spent}
use Rattle.spool.specs.Headers.{as_page}
use Rattle.spool.specs.Runs.{joined}
use Rattle.page_feed.specs.Reach.{IsWithinReach, behind, sizes_of, touched}

-- how many bytes pages of these sizes have
abbrev pub total : List ℕ → ℕ
total [] = 0
total (size ∷ sizes) = size + total sizes

-- the sizes of pages that were read from a disk
abbrev pub sizes_read : List (List ℕ) → List ℕ
sizes_read pages = map (λ page. length (used_bytes (as_page page))) pages

pub total-append : (xs ys : List ℕ) → total (xs ++ ys) ≡ total xs + total ys
total-append [] ys = omega arith
total-append (x ∷ xs) ys = omega (arith, total-append xs ys)

pub total-sizes_of : (ps : List SegmentView) → total (sizes_of ps) ≡ length (all_used_bytes ps)
total-sizes_of [] = refl
total-sizes_of (p ∷ ps) = omega (arith, total-sizes_of ps, length-append (used_bytes p) (all_used_bytes ps))

pub total-sizes_read : (pages : List (List ℕ)) → total (sizes_read pages) ≡ length (joined pages)
total-sizes_read [] = refl
total-sizes_read (page ∷ pages) =
    omega (arith, total-sizes_read pages, length-append (used_bytes (as_page page)) (joined pages))

pub length-sizes_of : (ps : List SegmentView) → length (sizes_of ps) ≡ length ps
length-sizes_of [] = refl
length-sizes_of (p ∷ ps) = omega (arith, length-sizes_of ps)

pub sizes-append : (ps qs : List SegmentView) → sizes_of (ps ++ qs) ≡ sizes_of ps ++ sizes_of qs
sizes-append [] qs = refl
sizes-append (p ∷ ps) qs = ap (λ sizes. length (used_bytes p) ∷ sizes) (sizes-append ps qs)

pub all_used_bytes-append : (ps qs : List SegmentView) → all_used_bytes (ps ++ qs) ≡ all_used_bytes ps ++ all_used_bytes qs
all_used_bytes-append ps qs = flat_map-append used_bytes ps qs

-- the page in which the bytes end, and one that they pass
pub behind_within : (count size : ℕ) (sizes : List ℕ) → count < size → behind count (size ∷ sizes) ≡ (size - count) ∷ sizes
behind_within count size sizes below =
    let e : nat_lt count size ≡ true = grind (arith, nat_tests) in ap (λ b. cond b ((size - count) ∷ sizes) (behind (count - size) sizes)) e

pub behind_past : (count size : ℕ) (sizes : List ℕ) → size ≤ count → behind count (size ∷ sizes) ≡ behind (count - size) sizes
behind_past count size sizes past =
    let e : nat_lt count size ≡ false = grind (arith, nat_tests) in ap (λ b. cond b ((size - count) ∷ sizes) (behind (count - size) sizes)) e

-- how many bytes stand behind the first ones
pub total-behind : (count : ℕ) (sizes : List ℕ) → total (behind count sizes) ≡ total sizes - count
total-behind count [] = omega arith
total-behind count (size ∷ sizes) = elim (cases_lt count size) [
  | inl below ↦ ap total (behind_within count size sizes below) ∙ (let e : (size - count) + total sizes ≡ size + total sizes - count = omega (arith, below) in e)
  | inr past ↦ ap total (behind_past count size sizes past) ∙ total-behind (count - size) sizes ∙ (let e : total sizes - (count - size) ≡ size + total sizes - count = omega (arith, past) in e)
]

-- bytes that go past some pages touch one page more than these
pub touched_past : (n : ℕ) (xs ys : List ℕ) → total xs < n → n ≤ total xs + total ys → length xs < touched n (xs ++ ys)
touched_past zero xs ys some within = absurd (omega (arith, some))
touched_past (suc n) [] [] some within = absurd (omega (arith, within))
touched_past (suc n) [] (y ∷ ys) some within = omega arith
touched_past (suc n) (x ∷ xs) ys some within =
    let more = touched_past (suc n - x) xs ys (omega (arith, some)) (omega (arith, within)) in omega (arith, more)

-- bytes of the first page in a reader weren't read, or all were
pub unspent_more : (text : List ℕ) (p : SegmentView) (ps : List SegmentView) → has_spent text (p ∷ ps) ≡ false → length (all_used_bytes ps) < length text
unspent_more text p ps unspent =
    let e : nat_le (length text) (length (all_used_bytes ps)) ≡ false = unspent in grind (arith, nat_tests)

pub spent_less : (text : List ℕ) (p : SegmentView) (ps : List SegmentView) → has_spent text (p ∷ ps) ≡ true → length text ≤ length (all_used_bytes ps)
spent_less text p ps spent =
    let e : nat_le (length text) (length (all_used_bytes ps)) ≡ true = spent in grind (arith, nat_tests)

-- what is left of the pages in a reader, of which the first isn't read whole
pub behind_unspent : (text : List ℕ) (p : SegmentView) (ps : List SegmentView) (ys : List ℕ) → has_spent text (p ∷ ps) ≡ false → length text ≤ length (all_used_bytes (p ∷ ps)) → behind (length (all_used_bytes (p ∷ ps)) - length text) (sizes_of (p ∷ ps) ++ ys) ≡ (length (used_bytes p) - (length (all_used_bytes (p ∷ ps)) - length text)) ∷ (sizes_of ps ++ ys)
behind_unspent text p ps ys unspent within =
    let more : length (all_used_bytes ps) < length text = unspent_more text p ps unspent in
    behind_within (length (all_used_bytes (p ∷ ps)) - length text) (length (used_bytes p)) (sizes_of ps ++ ys) (omega (arith, more, within, length-append (used_bytes p) (all_used_bytes ps)))

pub behind_sum : (text : List ℕ) (p : SegmentView) (ps : List SegmentView) → has_spent text (p ∷ ps) ≡ false → length text ≤ length (all_used_bytes (p ∷ ps)) → (length (used_bytes p) - (length (all_used_bytes (p ∷ ps)) - length text)) + total (sizes_of ps) ≡ length text
behind_sum text p ps unspent within =
    let more : length (all_used_bytes ps) < length text = unspent_more text p ps unspent in
    omega (arith, more, within, length-append (used_bytes p) (all_used_bytes ps), total-sizes_of ps)

-- what stands behind some bytes, and behind more of them
pub behind-behind : (n count : ℕ) (sizes : List ℕ) → behind n (behind count sizes) ≡ behind (count + n) sizes
behind-behind n count [] = refl
behind-behind n count (size ∷ sizes) = elim (cases_lt count size) [
  | inl below ↦ elim (cases_lt (count + n) size) [
    | inl within ↦ ap (behind n) (behind_within count size sizes below) ∙ behind_within n (size - count) sizes (omega (arith, within, below)) ∙ ap (λ k. k ∷ sizes) (let e : size - count - n ≡ size - (count + n) = omega arith in e) ∙ sym (behind_within (count + n) size sizes within)
    | inr past ↦ ap (behind n) (behind_within count size sizes below) ∙ behind_past n (size - count) sizes (omega (arith, past, below)) ∙ ap (λ k. behind k sizes) (let e : n - (size - count) ≡ count + n - size = omega (arith, below, past) in e) ∙ sym (behind_past (count + n) size sizes past)
  ]
  | inr past ↦ ap (behind n) (behind_past count size sizes past) ∙ behind-behind n (count - size) sizes ∙ ap (λ k. behind k sizes) (let e : count - size + n ≡ count + n - size = omega (arith, past) in e) ∙ sym (behind_past (count + n) size sizes (omega (arith, past)))
]

-- An empty page is touched, and nothing of it is behind.
touched_empty : (k : ℕ) (sizes : List ℕ) → touched k sizes ≤ touched k (0 ∷ sizes)
touched_empty zero sizes = omega arith
touched_empty (suc n) sizes =
    let same : suc n - 0 ≡ suc n = omega arith in
    omega (arith, ap (λ k. touched k sizes) same)

behind_empty : (k : ℕ) (sizes : List ℕ) → behind k (0 ∷ sizes) ≡ behind k sizes
behind_empty k sizes =
    let same : k - 0 ≡ k = omega arith in
    behind_past k 0 sizes (omega arith) ∙ ap (λ n. behind n sizes) same

-- Empty pages before the first byte are behind it at once.
pub reach_first : (reach : ℕ) (sizes : List ℕ) (rows : List (List ℕ)) → IsWithinReach reach sizes rows → IsWithinReach reach (behind 0 sizes) rows
reach_first reach [] rows within = within
reach_first reach (zero ∷ sizes) [] within = tt
reach_first reach (zero ∷ sizes) (row ∷ rows) (first, rest) =
    let fewer : touched (4 + length row) sizes ≤ reach = omega (arith, touched_empty (4 + length row) sizes, first) in
    reach_first reach sizes (row ∷ rows) (fewer, subst (λ left. IsWithinReach reach left rows) (behind_empty (4 + length row) sizes) rest)
reach_first reach (suc size ∷ sizes) rows within =
    let same : suc size - 0 ≡ suc size = omega arith in
    subst (λ left. IsWithinReach reach left rows) (sym (behind_within 0 (suc size) sizes (omega arith) ∙ ap (λ n. n ∷ sizes) same)) within
