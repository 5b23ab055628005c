-- Lemmas on pages, their bodies and what they weigh.
use Rattle.std.proofs.Common.{◌≡◌, ℕ, ◌+◌, ◌-◌, ◌<◌, ◌≤◌, List, [], ◌∷◌, ◌++◌, length, take, drop, set, get_or, refl, sym, ap, ◌∙◌, arith, append-nil, length-append}
use Rattle.std.proofs.lemmas.List.{length-drop, length-take-le, drop-append-le, drop-drop, drop-take, drop_more, take_more}
use Rattle.std.proofs.lemmas.Grind.{flat_map-append}
use Rattle.std.proofs.lemmas.List.Sums.{sum_by-set}
use Rattle.std.proofs.lemmas.List.Folds.{length-flat_map-take}
use Rattle.segment_core.specs.Segments.{SegmentView, segment_sum}
use Rattle.segment_core.proofs.Weighing.{segment_sum-cons}
use Rattle.paged_view.specs.Pages.{body, bodies, page_at, no_page}
use Rattle.paged_view.specs.Writing.{written}

-- bytes that were written over a list's own, as long as they fit, leave its length
pub length-over : (xs ys : List ℕ) (at : ℕ) → at + length ys ≤ length xs → length (take at xs ++ (ys ++ drop (at + length ys) xs)) ≡ length xs
length-over xs ys at fits =
    omega (arith, length-append (take at xs) (ys ++ drop (at + length ys) xs), length-append ys (drop (at + length ys) xs), length-take-le at xs (omega arith), length-drop (at + length ys) xs)

pub length-body : (p : SegmentView) → length (body p) ≡ length p.bytes - 16
length-body p = length-drop 16 p.bytes

pub bodies-append : (ps qs : List SegmentView) → bodies (ps ++ qs) ≡ bodies ps ++ bodies qs
bodies-append ps qs = flat_map-append body ps qs

-- how many bytes the bodies have is a weight of the pages
pub length-bodies : (ps : List SegmentView) → length (bodies ps) ≡ segment_sum (λ _ n. n - 16) ps
length-bodies [] = refl
length-bodies (p ∷ ps) =
    omega (arith, length-append (body p) (bodies ps), length-bodies ps, length-body p, segment_sum-cons (λ _ n. n - 16) p ps)

-- pages that weigh the same have bodies of as many bytes
pub length-bodies-segment_sum : (ps qs : List SegmentView) → ((h : ℕ → ℕ → ℕ) → segment_sum h qs ≡ segment_sum h ps) → length (bodies qs) ≡ length (bodies ps)
length-bodies-segment_sum ps qs same =
    length-bodies qs ∙ same (λ _ n. n - 16) ∙ sym (length-bodies ps)

-- a page is put in the place of one of the same id and length
pub segment_sum-set : (h : ℕ → ℕ → ℕ) (ps : List SegmentView) (i : ℕ) (q : SegmentView) → i < length ps → q.id ≡ (page_at ps i).id → length q.bytes ≡ length (page_at ps i).bytes → segment_sum h (set ps i q) ≡ segment_sum h ps
segment_sum-set h ps i q among same long =
    let e = sum_by-set (λ p. h p.id (length p.bytes)) ps i q no_page among in
    let f : h q.id (length q.bytes) ≡ h (page_at ps i).id (length (page_at ps i).bytes) = ap (λ n. h n (length q.bytes)) same ∙ ap (h (page_at ps i).id) long in
    omega (arith, e, f)

-- the pages from one on are that page and those behind it
pub bodies-drop : (ps : List SegmentView) (i : ℕ) → i < length ps → bodies (drop i ps) ≡ body (page_at ps i) ++ bodies (drop (i + 1) ps)
bodies-drop ps i among = ap bodies (drop_more ps i no_page among)

-- the pages up to one are those before it and that page
pub bodies-take : (ps : List SegmentView) (i : ℕ) → i < length ps → bodies (take (i + 1) ps) ≡ bodies (take i ps) ++ body (page_at ps i)
bodies-take ps i among =
    ap bodies (take_more ps i no_page among) ∙ bodies-append (take i ps) (page_at ps i ∷ []) ∙ ap (λ bs. bodies (take i ps) ++ bs) (append-nil (body (page_at ps i)))

-- the body of a page that was written over behind its header
pub body-written : (p : SegmentView) (fill : ℕ) (bs : List ℕ) → fill + length bs ≤ length (body p) → 0 < length bs → body (written p (16 + fill) bs) ≡ take fill (body p) ++ (bs ++ drop (fill + length bs) (body p))
body-written p fill bs fits some =
    let long : 16 + fill ≤ length p.bytes = omega (arith, length-body p) in
    let front : List ℕ = take (16 + fill) p.bytes in
    let behind : List ℕ = bs ++ drop (16 + fill + length bs) p.bytes in
    let header : 16 ≤ length front = omega (arith, length-take-le (16 + fill) p.bytes long) in
    let e : drop 16 (front ++ behind) ≡ drop 16 front ++ behind = drop-append-le 16 front behind header in
    let f : drop 16 front ≡ take fill (body p) = drop-take 16 fill p.bytes in
    let n : 16 + (fill + length bs) ≡ 16 + fill + length bs = omega arith in
    let g : drop (fill + length bs) (body p) ≡ drop (16 + fill + length bs) p.bytes = drop-drop (fill + length bs) 16 p.bytes ∙ ap (λ k. drop k p.bytes) n in
    e ∙ ap (λ xs. xs ++ behind) f ∙ ap (λ xs. take fill (body p) ++ (bs ++ xs)) (sym g)

-- it has as many bytes as before
pub length-written : (p : SegmentView) (fill : ℕ) (bs : List ℕ) → fill + length bs ≤ length (body p) → 0 < length bs → length (written p (16 + fill) bs).bytes ≡ length p.bytes
length-written p fill bs fits some =
    length-over p.bytes bs (16 + fill) (omega (arith, length-body p))

-- the pages before one and that page have no more bytes than all
pub length-bodies-passed : (ps qs : List SegmentView) (i : ℕ) (q : SegmentView) → qs ≡ ps → i < length qs → q ≡ get_or qs i q → length (bodies (take i qs)) + length (body q) ≤ length (bodies ps)
length-bodies-passed ps qs i q same among is =
    omega (arith, length-flat_map-take body qs i q among, ap (λ (p : SegmentView). length (body p)) is, ap (λ xs. length (bodies xs)) same)
