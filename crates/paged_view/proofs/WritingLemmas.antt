-- Lemmas on a writer's text.
use Rattle.std.proofs.Common.{◌≡◌, ℕ, ◌+◌, ◌-◌, ◌<◌, ◌≤◌, List, ◌++◌, length, take, drop, set, get_or, refl, sym, ap, ◌∙◌, arith, append_assoc, append-nil, length-append, take-add, take-append-drop, min}
use Rattle.std.proofs.lemmas.List.{length-take, length-drop, length-take-le, take_at, take-append-le, length-set, take-set, drop-set, get_or-set_same, drop_all, get_or_past, get_or_default, take_rest}
use Rattle.segment_core.specs.Segments.{SegmentView, segment_sum}
use Rattle.std.proofs.lemmas.Bool.{cases_lt}
use Rattle.std.proofs.Common.{inl, inr}
use Rattle.paged_view.specs.Pages.{body, bodies, page_at, no_page}
use Rattle.paged_view.specs.Writing.{Writing, free, text_in, written}
use Rattle.paged_view.proofs.PageLemmas.{bodies-append, bodies-drop, bodies-take, body-written, length-written, segment_sum-set, length-bodies-segment_sum, length-body}

-- the bodies of the first pages and of the others
pub bodies-split : (ps : List SegmentView) (full : ℕ) → bodies ps ≡ bodies (take full ps) ++ bodies (drop full ps)
bodies-split ps full = ap bodies (sym (take-append-drop full ps)) ∙ bodies-append (take full ps) (drop full ps)

pub length-text_in : (ps : List SegmentView) (full fill : ℕ) → fill ≤ length (bodies (drop full ps)) → length (text_in ps full fill) ≡ length (bodies (take full ps)) + fill
length-text_in ps full fill within =
    omega (arith, length-append (bodies (take full ps)) (take fill (bodies (drop full ps))), length-take-le fill (bodies (drop full ps)) within)

-- how much room there is, counted from the first page that isn't full
pub free_is : (ps : List SegmentView) (room full fill : ℕ) (w : Writing) → record { room = room; pages = ps; text = text_in ps full fill } ≡ w → fill ≤ length (bodies (drop full ps)) → free w + fill ≡ length (bodies (drop full ps))
free_is ps room full fill w is within =
    let e : length w.text ≡ length (bodies (take full ps)) + fill = ap (λ (v : Writing). length v.text) (sym is) ∙ length-text_in ps full fill within in
    let f : length (bodies w.pages) ≡ length (bodies (take full ps)) + length (bodies (drop full ps)) = ap (λ (v : Writing). length (bodies v.pages)) (sym is) ∙ ap length (bodies-split ps full) ∙ length-append (bodies (take full ps)) (bodies (drop full ps)) in
    omega arith

-- the page under way has room for what stands in it
pub within_rest : (ps : List SegmentView) (full fill : ℕ) → (0 < fill → fill < length (body (page_at ps full))) → full ≤ length ps → fill ≤ length (bodies (drop full ps))
within_rest ps full fill under among = elim (cases_lt full (length ps)) [
  | inl below ↦ elim (cases_lt 0 fill) [
    | inl some ↦ omega (arith, under some, ap length (bodies-drop ps full below), length-append (body (page_at ps full)) (bodies (drop (full + 1) ps)))
    | inr none ↦ omega arith
  ]
  | inr past ↦ elim (cases_lt 0 fill) [
    | inl some ↦ absurd (omega (arith, under some, ap (λ (p : SegmentView). length (body p)) (get_or_past ps full no_page past)))
    | inr none ↦ omega arith
  ]
]

-- bytes were written behind the text, into the page under way
pub text_in-written : (ps : List SegmentView) (full fill : ℕ) (bs : List ℕ) → full < length ps → fill + length bs ≤ length (body (page_at ps full)) → 0 < length bs → text_in (set ps full (written (page_at ps full) (16 + fill) bs)) full (fill + length bs) ≡ text_in ps full fill ++ bs
text_in-written ps full fill bs among fits some =
    let p : SegmentView = page_at ps full in
    let q : SegmentView = written p (16 + fill) bs in
    let rest : List ℕ = bodies (drop (full + 1) ps) in
    let front : List ℕ = take fill (body p) in
    let e : take full (set ps full q) ≡ take full ps = take-set ps full q in
    let f : bodies (drop full (set ps full q)) ≡ body q ++ rest = ap bodies (drop-set ps full q among) in
    let g : body q ≡ front ++ (bs ++ drop (fill + length bs) (body p)) = body-written p fill bs fits some in
    let long : length (front ++ bs) ≡ fill + length bs = omega (arith, length-append front bs, length-take-le fill (body p) (omega arith)) in
    let joined : body q ++ rest ≡ (front ++ bs) ++ (drop (fill + length bs) (body p) ++ rest) = ap (λ xs. xs ++ rest) g ∙ append_assoc front (bs ++ drop (fill + length bs) (body p)) rest ∙ ap (λ xs. front ++ xs) (append_assoc bs (drop (fill + length bs) (body p)) rest) ∙ sym (append_assoc front bs (drop (fill + length bs) (body p) ++ rest)) in
    let h : take (fill + length bs) (bodies (drop full (set ps full q))) ≡ front ++ bs = ap (take (fill + length bs)) (f ∙ joined) ∙ take_at (front ++ bs) (drop (fill + length bs) (body p) ++ rest) (fill + length bs) long in
    let k : take fill (bodies (drop full ps)) ≡ front = ap (take fill) (bodies-drop ps full among) ∙ take-append-le fill (body p) rest (omega arith) in
    ap (λ qs. bodies qs ++ take (fill + length bs) (bodies (drop full (set ps full q)))) e ∙ ap (λ xs. bodies (take full ps) ++ xs) h ∙ sym (append_assoc (bodies (take full ps)) front bs) ∙ ap (λ xs. (bodies (take full ps) ++ xs) ++ bs) (sym k)

-- the page under way became full
pub text_in-roll : (ps : List SegmentView) (full : ℕ) → full < length ps → text_in ps (full + 1) 0 ≡ text_in ps full (length (body (page_at ps full)))
text_in-roll ps full among =
    let p : SegmentView = page_at ps full in
    let rest : List ℕ = bodies (drop (full + 1) ps) in
    let k : take (length (body p)) (bodies (drop full ps)) ≡ body p = ap (take (length (body p))) (bodies-drop ps full among) ∙ take_at (body p) rest (length (body p)) refl in
    append-nil (bodies (take (full + 1) ps)) ∙ bodies-take ps full among ∙ ap (λ xs. bodies (take full ps) ++ xs) (sym k)

-- pages of which one was written over weigh the same
pub segment_sum-written : (h : ℕ → ℕ → ℕ) (ps : List SegmentView) (full fill : ℕ) (bs : List ℕ) → full < length ps → fill + length bs ≤ length (body (page_at ps full)) → 0 < length bs → segment_sum h (set ps full (written (page_at ps full) (16 + fill) bs)) ≡ segment_sum h ps
segment_sum-written h ps full fill bs among fits some =
    segment_sum-set h ps full (written (page_at ps full) (16 + fill) bs) among refl (length-written (page_at ps full) fill bs fits some)

-- what one piece does: `n` bytes of `bytes` were written, and the pages are then `qs`
pub record IsPut (ps qs : List SegmentView) (full fill n : ℕ) (bytes : List ℕ) : Type 0 where
  pub among : full < length ps
  pub fits : fill + n ≤ length (body (page_at ps full))
  pub some : 0 < n
  pub within : n ≤ length bytes
  pub put : qs ≡ set ps full (written (page_at ps full) (16 + fill) (take n bytes))

pub put_text : (ps qs : List SegmentView) (full fill n : ℕ) (bytes : List ℕ) → IsPut ps qs full fill n bytes → text_in qs full (fill + n) ≡ text_in ps full fill ++ take n bytes
put_text ps qs full fill n bytes is =
    let long : length (take n bytes) ≡ n = length-take-le n bytes is.within in
    let e = text_in-written ps full fill (take n bytes) is.among (omega (arith, long, is.fits)) (omega (arith, long, is.some)) in
    ap (λ xs. text_in xs full (fill + n)) is.put ∙ ap (λ k. text_in (set ps full (written (page_at ps full) (16 + fill) (take n bytes))) full (fill + k)) (sym long) ∙ e

pub put_weigh : (h : ℕ → ℕ → ℕ) (ps qs : List SegmentView) (full fill n : ℕ) (bytes : List ℕ) → IsPut ps qs full fill n bytes → segment_sum h qs ≡ segment_sum h ps
put_weigh h ps qs full fill n bytes is =
    let long : length (take n bytes) ≡ n = length-take-le n bytes is.within in
    ap (segment_sum h) is.put ∙ segment_sum-written h ps full fill (take n bytes) is.among (omega (arith, long, is.fits)) (omega (arith, long, is.some))

-- so the page under way keeps its length
pub put_body : (ps qs : List SegmentView) (full fill n : ℕ) (bytes : List ℕ) → IsPut ps qs full fill n bytes → length (body (page_at qs full)) ≡ length (body (page_at ps full))
put_body ps qs full fill n bytes is =
    let long : length (take n bytes) ≡ n = length-take-le n bytes is.within in
    let p : SegmentView = page_at ps full in
    let q : SegmentView = written p (16 + fill) (take n bytes) in
    let same : length q.bytes ≡ length p.bytes = length-written p fill (take n bytes) (omega (arith, long, is.fits)) (omega (arith, long, is.some)) in
    let e : page_at (set ps full q) full ≡ q = get_or-set_same ps full q no_page is.among in
    ap (λ xs. length (body (page_at xs full))) is.put ∙ ap (λ (r : SegmentView). length (body r)) e ∙ omega (arith, same, length-body p, length-body q)

-- one piece is put where there is room for all bytes, and the page under way has room for one
pub put_is : (ps qs : List SegmentView) (full fill n : ℕ) (bytes : List ℕ) → full < length ps → fill < length (body (page_at ps full)) → 0 < length bytes → n ≡ min (length bytes) (length (body (page_at ps full)) - fill) → qs ≡ set ps full (written (page_at ps full) (16 + fill) (take n bytes)) → IsPut ps qs full fill n bytes
put_is ps qs full fill n bytes among room some count put = record {
  among = among;
  fits = omega arith;
  some = omega arith;
  within = omega arith;
  put = put;
}

-- where there is room, a page is under way
pub among_is : (ps : List SegmentView) (room full fill : ℕ) (w : Writing) → record { room = room; pages = ps; text = text_in ps full fill } ≡ w → (0 < fill → fill < length (body (page_at ps full))) → full ≤ length ps → 0 < free w → full < length ps
among_is ps room full fill w is under among some = elim (cases_lt full (length ps)) [
  | inl below ↦ below
  | inr past ↦ absurd (omega (arith, free_is ps room full fill w is (within_rest ps full fill under among), ap (λ qs. length (bodies qs)) (drop_all full ps past)))
]

-- the body of the page under way, as the code reads it
pub body_here : (ps : List SegmentView) (full : ℕ) (p : SegmentView) (space : List ℕ) → full < length ps → p ≡ get_or ps full p → space ≡ body p → body (page_at ps full) ≡ space
body_here ps full p space among is reads =
    ap body (get_or_default ps full no_page p among ∙ sym is) ∙ sym reads

-- one piece as the code puts it
pub put_known : (ps qs : List SegmentView) (room full fill n : ℕ) (w : Writing) (bytes space : List ℕ) (p : SegmentView) → record { room = room; pages = ps; text = text_in ps full fill } ≡ w → (0 < fill → fill < length (body (page_at ps full))) → full ≤ length ps → 0 < length bytes → length bytes ≤ free w → p ≡ get_or ps full p → space ≡ body p → 0 < length space → n ≡ min (length bytes) (length (body (page_at ps full)) - fill) → qs ≡ set ps full (written (page_at ps full) (16 + fill) (take n bytes)) → IsPut ps qs full fill n bytes × (length (body (page_at ps full)) ≡ length space)
put_known ps qs room full fill n w bytes space p is under among some enough at reads page count put =
    let here : full < length ps = among_is ps room full fill w is under among (omega arith) in
    let e : length (body (page_at ps full)) ≡ length space = ap length (body_here ps full p space here at reads) in
    let room : fill < length (body (page_at ps full)) = elim (cases_lt 0 fill) [ inl more ↦ under more | inr none ↦ omega arith ] in
    (put_is ps qs full fill n bytes here room some count put, e)

-- the text after a piece, and the same where the page became full
pub text_put : (ps qs : List SegmentView) (room full fill n : ℕ) (w : Writing) (bytes : List ℕ) → record { room = room; pages = ps; text = text_in ps full fill } ≡ w → IsPut ps qs full fill n bytes → text_in qs full (fill + n) ≡ w.text ++ take n bytes
text_put ps qs room full fill n w bytes is put =
    put_text ps qs full fill n bytes put ∙ ap (λ (v : Writing). v.text ++ take n bytes) is

pub text_put_full : (ps qs : List SegmentView) (room full fill n : ℕ) (w : Writing) (bytes : List ℕ) → record { room = room; pages = ps; text = text_in ps full fill } ≡ w → IsPut ps qs full fill n bytes → fill + n ≡ length (body (page_at ps full)) → text_in qs (full + 1) 0 ≡ w.text ++ take n bytes
text_put_full ps qs room full fill n w bytes is put end =
    let among : full < length qs = omega (arith, put.among, ap length put.put, length-set ps full (written (page_at ps full) (16 + fill) (take n bytes))) in
    text_in-roll qs full among ∙ ap (text_in qs full) (put_body ps qs full fill n bytes put ∙ sym end) ∙ text_put ps qs room full fill n w bytes is put

-- the pages' weight after a piece
pub weigh_put : (ps qs : List SegmentView) (room full fill n : ℕ) (w : Writing) (bytes : List ℕ) → record { room = room; pages = ps; text = text_in ps full fill } ≡ w → IsPut ps qs full fill n bytes → (h : ℕ → ℕ → ℕ) → segment_sum h qs ≡ segment_sum h w.pages
weigh_put ps qs room full fill n w bytes is put h =
    put_weigh h ps qs full fill n bytes put ∙ ap (λ (v : Writing). segment_sum h v.pages) is

pub length_put : (ps qs : List SegmentView) (room full fill n : ℕ) (w : Writing) (bytes : List ℕ) → record { room = room; pages = ps; text = text_in ps full fill } ≡ w → IsPut ps qs full fill n bytes → length (bodies qs) ≡ length (bodies w.pages)
length_put ps qs room full fill n w bytes is put =
    length-bodies-segment_sum w.pages qs (weigh_put ps qs room full fill n w bytes is put)

-- bytes that stand in a span at a place
pub length-piece : (bytes piece : List ℕ) (at : ℕ) → at ≤ length bytes → piece ≡ take (length piece) (drop at bytes) → at + length piece ≤ length bytes
length-piece bytes piece at among is =
    omega (arith, ap length is, length-take (length piece) (drop at bytes), length-drop at bytes)

-- a span's bytes up to a place were written, and then the piece there
pub text_span : (text mid new bytes piece : List ℕ) (at : ℕ) → mid ≡ text ++ take at bytes → piece ≡ take (length piece) (drop at bytes) → new ≡ mid ++ piece → new ≡ text ++ take (at + length piece) bytes
text_span text mid new bytes piece at first is next =
    next ∙ ap (λ xs. xs ++ piece) first ∙ append_assoc text (take at bytes) piece ∙ ap (λ xs. text ++ (take at bytes ++ xs)) is ∙ ap (λ xs. text ++ xs) (sym (take-add at (length piece) bytes))

-- the same of the first `n` bytes of a slice's rest
pub text_piece : (text mid new bytes : List ℕ) (at n : ℕ) → mid ≡ text ++ take at bytes → new ≡ mid ++ take n (take (length bytes - at) (drop at bytes)) → new ≡ text ++ take (at + n) bytes
text_piece text mid new bytes at n first next =
    next ∙ ap (λ xs. xs ++ take n (take (length bytes - at) (drop at bytes))) first ∙ append_assoc text (take at bytes) (take n (take (length bytes - at) (drop at bytes))) ∙ ap (λ xs. text ++ (take at bytes ++ take n xs)) (take_rest bytes at) ∙ ap (λ xs. text ++ xs) (sym (take-add at n bytes))

pub piece_within : (bytes : List ℕ) (at n : ℕ) → at ≤ length bytes → n ≤ length (take (length bytes - at) (drop at bytes)) → at + n ≤ length bytes
piece_within bytes at n among within =
    omega (arith, ap length (take_rest bytes at), length-drop at bytes)

-- the text fits into the bodies
pub text_fits : (ps : List SegmentView) (room full fill : ℕ) (w : Writing) → record { room = room; pages = ps; text = text_in ps full fill } ≡ w → fill ≤ length (bodies (drop full ps)) → length w.text ≤ length (bodies w.pages)
text_fits ps room full fill w is within =
    let e : length w.text ≡ length (bodies (take full ps)) + fill = ap (λ (v : Writing). length v.text) (sym is) ∙ length-text_in ps full fill within in
    let f : length (bodies w.pages) ≡ length (bodies (take full ps)) + length (bodies (drop full ps)) = ap (λ (v : Writing). length (bodies v.pages)) (sym is) ∙ ap length (bodies-split ps full) ∙ length-append (bodies (take full ps)) (bodies (drop full ps)) in
    omega arith
