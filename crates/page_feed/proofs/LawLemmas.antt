-- Lemmas on records behind which one is appended.
use Rattle.std.proofs.Common.{◌≡◌, ℕ, zero, suc, ◌+◌, ◌-◌, ◌*◌, ◌/◌, ◌<◌, ◌≤◌, ◌⊎◌, List, [], ◌∷◌, ◌++◌, length, replicate, sum, refl, sym, ap, ◌∙◌, subst, arith, inl, inr, All, length-append, suc-mul, le-div_iff_mul-le}
use Rattle.std.proofs.lemmas.Bool.{cases_lt}
use Rattle.std.proofs.lemmas.List.{length-replicate}
use Rattle.std.proofs.lemmas.List.Sums.{sum_by-cons}
use Rattle.flow_types.specs.Records.{framed, frames}
use Rattle.paged_view.proofs.RecordLemmas.{length-framed}
use Rattle.page_feed.specs.Reach.{IsWithinReach, behind, touched}
use Rattle.page_feed.specs.ReachLaw.{AppendingStaysWithinReach, IsUnderWay}
use Rattle.page_feed.proofs.ReachLemmas.{behind-behind, behind_past, behind_within, total, total-append, total-behind}

sum-total : (sizes : List ℕ) → sum sizes ≡ total sizes
sum-total [] = refl
sum-total (size ∷ sizes) =
    omega (arith, sum_by-cons (λ x. x) size sizes, sum-total sizes)

-- Pages were put behind these, or bytes were added to the last one first.
abbrev Extends : List ℕ → List ℕ → Type 0
Extends [] ys = Unit {0}
Extends (x ∷ xs) [] = ⊥
Extends (x ∷ xs) (y ∷ ys) = ((x ≡ y) × Extends xs ys) ⊎ ((xs ≡ []) × (x ≤ y))

-- Bytes of the first pages touch no more of the others.
touched_extends : (n : ℕ) (xs ys : List ℕ) → Extends xs ys → n ≤ total xs → touched n ys ≤ touched n xs
touched_extends zero xs ys extends within = omega arith
touched_extends (suc n) [] ys extends within = absurd (omega (arith, within))
touched_extends (suc n) (x ∷ xs) [] extends within = absurd extends
touched_extends (suc n) (x ∷ xs) (y ∷ ys) (inl same) within =
    let more = touched_extends (suc n - x) xs ys same.1 (omega (arith, within)) in
    let at : touched (suc n - y) ys ≡ touched (suc n - x) ys = ap (λ k. touched (suc n - k) ys) (sym same.0) in
    omega (arith, more, at)
touched_extends (suc n) (x ∷ xs) (y ∷ ys) (inr open_page) within =
    let none : suc n - y ≡ 0 = omega (arith, within, open_page.1, ap total open_page.0) in
    let at : touched (suc n - y) ys ≡ 0 = ap (λ k. touched k ys) none in
    omega (arith, at)

-- What stands behind them does too.
behind_extends : (n : ℕ) (xs ys : List ℕ) → Extends xs ys → n ≤ total xs → Extends (behind n xs) (behind n ys)
behind_extends n [] ys extends within = tt
behind_extends n (x ∷ xs) [] extends within = absurd extends
behind_extends n (x ∷ xs) (y ∷ ys) (inl same) within = elim (cases_lt n x) [
  | inl below ↦
      let one : behind n (x ∷ xs) ≡ (x - n) ∷ xs = behind_within n x xs below in
      let two : behind n (y ∷ ys) ≡ (y - n) ∷ ys = behind_within n y ys (omega (arith, below, same.0)) in
      subst (λ zs. Extends zs (behind n (y ∷ ys))) (sym one) (subst (Extends ((x - n) ∷ xs)) (sym two) (inl (ap (λ k. k - n) same.0, same.1)))
  | inr past ↦
      let one : behind n (x ∷ xs) ≡ behind (n - x) xs = behind_past n x xs past in
      let two : behind n (y ∷ ys) ≡ behind (n - x) ys = behind_past n y ys (omega (arith, past, same.0)) ∙ ap (λ k. behind (n - k) ys) (sym same.0) in
      subst (λ zs. Extends zs (behind n (y ∷ ys))) (sym one) (subst (Extends (behind (n - x) xs)) (sym two) (behind_extends (n - x) xs ys same.1 (omega (arith, within))))
]
behind_extends n (x ∷ xs) (y ∷ ys) (inr open_page) within = elim (cases_lt n x) [
  | inl below ↦
      let one : behind n (x ∷ xs) ≡ (x - n) ∷ xs = behind_within n x xs below in
      let two : behind n (y ∷ ys) ≡ (y - n) ∷ ys = behind_within n y ys (omega (arith, below, open_page.1)) in
      subst (λ zs. Extends zs (behind n (y ∷ ys))) (sym one) (subst (Extends ((x - n) ∷ xs)) (sym two) (inr (open_page.0, omega (arith, open_page.1))))
  | inr past ↦
      let one : behind n (x ∷ xs) ≡ [] = behind_past n x xs past ∙ ap (behind (n - x)) open_page.0 in
      subst (λ zs. Extends zs (behind n (y ∷ ys))) (sym one) tt
]

length-frames : (row : List ℕ) (rows : List (List ℕ)) → length (frames (row ∷ rows)) ≡ 4 + length row + length (frames rows)
length-frames row rows =
    length-append (framed row) (frames rows) ∙ ap (λ n. n + length (frames rows)) (length-framed row)

-- Records that are within reach stay so.
within_extends : (reach : ℕ) (xs ys : List ℕ) (rows : List (List ℕ)) → Extends xs ys → length (frames rows) ≤ total xs → IsWithinReach reach xs rows → IsWithinReach reach ys rows
within_extends reach xs ys [] extends fits within = tt
within_extends reach xs ys (row ∷ rows) extends fits within =
    let long : 4 + length row ≤ total xs = omega (arith, fits, length-frames row rows) in (
      omega (arith, touched_extends (4 + length row) xs ys extends long, within.0),
      within_extends reach (behind (4 + length row) xs) (behind (4 + length row) ys) rows (behind_extends (4 + length row) xs ys extends long) (omega (arith, fits, length-frames row rows, total-behind (4 + length row) xs)) within.1,
    )

-- One record more is within reach where it is behind the others.
within_more : (reach : ℕ) (ys : List ℕ) (rows : List (List ℕ)) (row : List ℕ) → behind 0 ys ≡ ys → IsWithinReach reach ys rows → touched (4 + length row) (behind (length (frames rows)) ys) ≤ reach → IsWithinReach reach ys (rows ++ row ∷ [])
within_more reach ys [] row start within open_page =
    (omega (arith, open_page, ap (touched (4 + length row)) start), tt)
within_more reach ys (first ∷ rows) row start within open_page =
    let at : behind (length (frames rows)) (behind (4 + length first) ys) ≡ behind (length (frames (first ∷ rows))) ys = behind-behind (length (frames rows)) (4 + length first) ys ∙ ap (λ n. behind n ys) (sym (length-frames first rows)) in
    let again : behind 0 (behind (4 + length first) ys) ≡ behind (4 + length first) ys = behind-behind 0 (4 + length first) ys ∙ ap (λ n. behind n ys) (let e : 4 + length first + 0 ≡ 4 + length first = omega arith in e) in (
      within.0,
      within_more reach (behind (4 + length first) ys) rows row again within.1 (subst (λ zs. touched (4 + length row) zs ≤ reach) (sym at) open_page),
    )

-- No more pages are touched than there are.
touched_few : (n : ℕ) (xs : List ℕ) → touched n xs ≤ length xs
touched_few zero xs = omega arith
touched_few (suc n) [] = omega arith
touched_few (suc n) (x ∷ xs) = omega (arith, touched_few (suc n - x) xs)

behind_few : (n : ℕ) (xs : List ℕ) → length (behind n xs) ≤ length xs
behind_few n [] = omega arith
behind_few n (x ∷ xs) = elim (cases_lt n x) [
  | inl below ↦ omega (arith, ap length (behind_within n x xs below))
  | inr past ↦ omega (arith, ap length (behind_past n x xs past), behind_few (n - x) xs)
]

-- Behind all bytes of the pages that stay stand those behind them.
behind_stay : (k : ℕ) (xs ys : List ℕ) → behind (total xs + k) (xs ++ ys) ≡ behind k ys
behind_stay k [] ys = ap (λ n. behind n ys) (let e : 0 + k ≡ k = omega arith in e)
behind_stay k (x ∷ xs) ys =
    behind_past (total (x ∷ xs) + k) x (xs ++ ys) (omega arith)
    ∙ ap (λ n. behind n (xs ++ ys)) (let e : x + total xs + k - x ≡ total xs + k = omega arith in e)
    ∙ behind_stay k xs ys

extends_stay : (xs ys zs : List ℕ) → Extends ys zs → Extends (xs ++ ys) (xs ++ zs)
extends_stay [] ys zs extends = extends
extends_stay (x ∷ xs) ys zs extends = inl (refl, extends_stay xs ys zs extends)

total-replicate : (count page : ℕ) → total (replicate count page) ≡ count * page
total-replicate zero page = omega arith
total-replicate (suc count) page =
    omega (arith, total-replicate count page, suc-mul count page)

-- Pages of which the first has some bytes begin with it.
starts : (y : ℕ) (ys : List ℕ) → 0 < y → behind 0 (y ∷ ys) ≡ y ∷ ys
starts y ys some =
    behind_within 0 y ys some ∙ ap (λ k. k ∷ ys) (let e : y - 0 ≡ y = omega arith in e)

starts_tail : (page count : ℕ) (after : List ℕ) → 0 < page → IsUnderWay page after → behind 0 (replicate count page ++ after) ≡ replicate count page ++ after
starts_tail page zero [] some way = refl
starts_tail page zero (size ∷ []) some way = starts size [] way.0
starts_tail page zero (size ∷ next ∷ after) some way = absurd way
starts_tail page (suc count) after some way =
    starts page (replicate count page ++ after) some

starts_all : (page count : ℕ) (stay after : List ℕ) → All (λ size. 0 < size) stay → 0 < page → IsUnderWay page after → behind 0 (stay ++ (replicate count page ++ after)) ≡ stay ++ (replicate count page ++ after)
starts_all page count [] after used some way = starts_tail page count after some way
starts_all page count (size ∷ stay) after used some way =
    starts size (stay ++ (replicate count page ++ after)) (used 0 0 (omega arith))

-- The open page goes on in what stands behind the pages that stay.
extends_last : (page count n : ℕ) (open_page after : List ℕ) → IsUnderWay page open_page → IsUnderWay page after → (count ≡ 0 → length open_page ≤ length after) → total (replicate count page ++ after) ≡ total open_page + n → Extends open_page (replicate count page ++ after)
extends_last page count n [] after way way' same more = tt
extends_last page count n (size ∷ next ∷ open_page) after way way' same more =
    absurd way
extends_last page (suc count) n (size ∷ []) after way way' same more =
    inr (refl, way.1)
extends_last page zero n (size ∷ []) [] way way' same more =
    absurd (omega (arith, same refl))
extends_last page zero n (size ∷ []) (size' ∷ []) way way' same more =
    inr (refl, omega (arith, more))
extends_last page zero n (size ∷ []) (size' ∷ next ∷ after) way way' same more =
    absurd way'

total-open_page : (page : ℕ) (open_page : List ℕ) → IsUnderWay page open_page → total open_page ≤ page
total-open_page page [] way = omega arith
total-open_page page (size ∷ []) way = omega (arith, way.1)
total-open_page page (size ∷ next ∷ open_page) way = absurd way

-- There are few pages behind those that stay.
pages_few : (page count n : ℕ) (open_page after : List ℕ) → 0 < page → IsUnderWay page open_page → IsUnderWay page after → total (replicate count page ++ after) ≡ total open_page + n → length (replicate count page ++ after) ≤ (n + page - 1) / page + 1
pages_few page count n open_page [] some way way' more =
    let all : count * page ≡ total open_page + n = omega (arith, more, total-append (replicate count page) [], total-replicate count page) in
    let least : (count - 1) * page ≤ n + page - 1 = few count (omega (arith, all, total-open_page page open_page way)) in
    let q : count - 1 ≤ (n + page - 1) / page = (le-div_iff_mul-le {k = page} {x = count - 1} {y = n + page - 1} some).1 least in
    omega (arith, q, length-append (replicate count page) [], length-replicate count page)
  where
    few : (k : ℕ) → k * page ≤ n + page → (k - 1) * page ≤ n + page - 1
    few zero low = omega (arith, some)
    few (suc k) low =
        let same : suc k - 1 ≡ k = omega arith in
        omega (arith, low, suc-mul k page, some, ap (λ j. j * page) same)
pages_few page count n open_page (size ∷ []) some way way' more =
    let all : count * page + size ≡ total open_page + n = omega (arith, more, total-append (replicate count page) (size ∷ []), total-replicate count page) in
    let q : count ≤ (n + page - 1) / page = (le-div_iff_mul-le {k = page} {x = count} {y = n + page - 1} some).1 (omega (arith, all, total-open_page page open_page way, way'.0)) in
    omega (arith, q, length-append (replicate count page) (size ∷ []), length-replicate count page)
pages_few page count n open_page (size ∷ next ∷ after) some way way' more =
    absurd way'

pub appending_stays : AppendingStaysWithinReach
appending_stays reach page count stay open_page after rows row grown filled near within =
    let old : List ℕ = stay ++ open_page in
    let tail : List ℕ = replicate count page ++ after in
    let more : total tail ≡ total open_page + (4 + length row) = omega (arith, grown.bytes, sum-total (stay ++ tail), sum-total old, total-append stay tail, total-append stay open_page) in
    let full : length (frames rows) ≡ total stay + total open_page = omega (arith, filled, sum-total old, total-append stay open_page) in
    let extends : Extends old (stay ++ tail) = extends_stay stay open_page tail (extends_last page count (4 + length row) open_page after grown.last_page grown.after_page grown.same_page more) in
    let before : IsWithinReach reach (stay ++ tail) rows = within_extends reach old (stay ++ tail) rows extends (omega (arith, full, total-append stay open_page)) within in
    let at : behind (length (frames rows)) (stay ++ tail) ≡ behind (total open_page) tail = ap (λ n. behind n (stay ++ tail)) full ∙ behind_stay (total open_page) stay tail in
    let few : touched (4 + length row) (behind (total open_page) tail) ≤ length tail = omega (arith, touched_few (4 + length row) (behind (total open_page) tail), behind_few (total open_page) tail) in
    let pages : length tail ≤ (4 + length row + page - 1) / page + 1 = pages_few page count (4 + length row) open_page after grown.some grown.last_page grown.after_page more in
    within_more reach (stay ++ tail) rows row (starts_all page count stay after grown.used grown.some grown.after_page) before
    (omega (arith, ap (touched (4 + length row)) at, few, pages, near))
