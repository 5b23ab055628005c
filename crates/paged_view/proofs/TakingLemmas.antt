-- Lemmas on the page that a writer gives out.
use Rattle.std.proofs.Common.{◌≡◌, ℕ, ◌-◌, ◌<◌, ◌≤◌, min, true, false, List, [], ◌∷◌, ◌++◌, length, take, drop, sym, ap, ◌∙◌, arith, append_assoc, append-nil, length-append, zero, suc, Some, slice_get, inl, inr}
use Rattle.std.proofs.lemmas.List.{length-take-le, take-append-le, take_all}
use Rattle.std.proofs.lemmas.Bool.{cases_lt}
use Rattle.std.proofs.lemmas.Bool.Decides.{nat_tests}
use Rattle.segment_core.specs.Segments.{SegmentView}
use Rattle.paged_view.specs.Pages.{body, bodies, used, used_bytes, page_at}
use Rattle.paged_view.specs.Writing.{Writing, has_full, text_in}

abbrev View : ℕ → List SegmentView → ℕ → ℕ → Writing
View room ps full fill = record { room = room; pages = ps; text = text_in ps full fill }

-- where no page is full, the text ends before the first page's end
short : (qs : List SegmentView) (q : SegmentView) (fill : ℕ) → (0 < fill → fill < length (body q)) → 0 < length (body q) → length (text_in (q ∷ qs) 0 fill) < length (body q)
short qs q fill under some =
    let within : fill < length (body q) = elim (cases_lt 0 fill) [ inl more ↦ under more | inr none ↦ omega arith ] in
    let e : take fill (body q ++ bodies qs) ≡ take fill (body q) = take-append-le fill (body q) (bodies qs) (omega arith) in
    omega (arith, ap length e, length-take-le fill (body q) (omega arith))

pub none_full : (room full fill : ℕ) (ps : List SegmentView) (p : SegmentView) (space : List ℕ) (w : Writing) → View room ps full fill ≡ w → full ≡ 0 → Some p ≡ slice_get ps 0 → space ≡ body p → 0 < length space → (0 < fill → fill < length (body (page_at ps full))) → false ≡ has_full w.text w.pages
none_full room full fill [] p space w is none at reads some under = cc
none_full room full fill (q ∷ qs) p space w is none at reads some under =
    let same : p ≡ q = cc in
    let nonempty : 0 < length (body q) = omega (arith, some, ap length reads, ap (λ (r : SegmentView). length (body r)) same) in
    let e : length (text_in (q ∷ qs) full fill) < length (body q) = rw none (short qs q fill (λ more. omega (arith, under more, ap (λ k. length (body (page_at (q ∷ qs) k))) none)) nonempty) in
    let f : false ≡ has_full (text_in (q ∷ qs) full fill) (q ∷ qs) = grind (arith, nat_tests) in
    f ∙ ap (λ (v : Writing). has_full v.text v.pages) is

-- where pages are full, the text is the first page's body and what stands behind
pub first_full : (qs : List SegmentView) (q : SegmentView) (full fill : ℕ) → 0 < full → text_in (q ∷ qs) full fill ≡ body q ++ text_in qs (full - 1) fill
first_full qs q zero fill some = absurd (omega arith)
first_full qs q (suc n) fill some =
    let e : suc n - 1 ≡ n = omega arith in
    append_assoc (body q) (bodies (take n qs)) (take fill (bodies (drop n qs))) ∙ ap (λ k. body q ++ text_in qs k fill) (sym e)

pub some_full : (room full fill : ℕ) (ps : List SegmentView) (w : Writing) → View room ps full fill ≡ w → 0 < full → full ≤ length ps → true ≡ has_full w.text w.pages
some_full room full fill [] w is some among = absurd (omega arith)
some_full room full fill (q ∷ qs) w is some among =
    let e = first_full qs q full fill some in
    let long : length (body q) ≤ length (text_in (q ∷ qs) full fill) = omega (arith, ap length e, length-append (body q) (text_in qs (full - 1) fill)) in
    let f : true ≡ has_full (text_in (q ∷ qs) full fill) (q ∷ qs) = grind (arith, nat_tests) in
    f ∙ ap (λ (v : Writing). has_full v.text v.pages) is

-- a page of which all is used
whole_part : (r : SegmentView) (xs : List ℕ) → body r ≡ xs → used r ≡ length xs → used_bytes r ≡ xs
whole_part r xs is all =
    ap (λ n. take n (body r)) all ∙ ap (take (length xs)) is ∙ take_all (length xs) xs (omega arith)

pub text_full : (room full fill : ℕ) (ps qs : List SegmentView) (r : SegmentView) (space : List ℕ) (w : Writing) → View room ps full fill ≡ w → 0 < full → full ≤ length ps → qs ≡ drop 1 ps → body r ≡ body (page_at ps 0) → space ≡ body (page_at ps 0) → used r ≡ length space → w.text ≡ (used_bytes r ++ []) ++ text_in qs (full - 1) fill
text_full room full fill [] qs r space w is some among rest same reads all = absurd (omega arith)
text_full room full fill (q ∷ ps) qs r space w is some among rest same reads all =
    let e : used_bytes r ≡ body q = whole_part r (body q) same (all ∙ ap length reads) in
    let f : (used_bytes r ++ []) ++ text_in qs (full - 1) fill ≡ body q ++ text_in ps (full - 1) fill = ap (λ xs. xs ++ text_in qs (full - 1) fill) (append-nil (used_bytes r) ∙ e) ∙ ap (λ xs. body q ++ text_in xs (full - 1) fill) rest in
    ap (λ (v : Writing). v.text) (sym is) ∙ first_full ps q full fill some ∙ sym f

-- how long the text is where a page is full
pub length_full : (room full fill : ℕ) (ps : List SegmentView) (w : Writing) → View room ps full fill ≡ w → 0 < full → full ≤ length ps → length (body (page_at ps 0)) ≤ length w.text
length_full room full fill [] w is some among = absurd (omega arith)
length_full room full fill (q ∷ qs) w is some among =
    omega (arith, ap (λ (v : Writing). length v.text) is, ap length (first_full qs q full fill some), length-append (body q) (text_in qs (full - 1) fill))

-- the first page as the code reads it
pub first_is : (ps : List SegmentView) (p : SegmentView) (space : List ℕ) → Some p ≡ slice_get ps 0 → space ≡ body p → space ≡ body (page_at ps 0)
first_is [] p space at reads = cc
first_is (q ∷ qs) p space at reads = reads ∙ ap body (let same : p ≡ q = cc in same)

-- where a page is full, all of its body is used
pub used_full : (r : SegmentView) (space : List ℕ) (ps : List SegmentView) (m : ℕ) → body r ≡ body (page_at ps 0) → space ≡ body (page_at ps 0) → used r ≡ length space → length (body (page_at ps 0)) ≤ m → used r ≡ min (length (body r)) m
used_full r space ps m same reads all long =
    omega (arith, ap length same, ap length reads, all, long)
