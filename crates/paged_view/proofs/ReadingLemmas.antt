-- Lemmas on a reader's place.
use Rattle.std.proofs.Common.{◌≡◌, ℕ, ◌+◌, ◌-◌, ◌<◌, ◌≤◌, true, false, List, [], ◌∷◌, ◌++◌, length, take, drop, get_or, sym, ap, ◌∙◌, arith, append-nil, length-append, take-append-drop, zero, suc, inl, inr, ◌==◌}
use Rattle.std.specs.Bool.{IsTrue}
use Rattle.std.proofs.lemmas.List.{length-drop, take_rest, drop-append-le, drop-drop, drop_more, get_or_default, get_or_past, get_or-drop, drop_all}
use Rattle.std.proofs.lemmas.Grind.{flat_map-append}
use Rattle.std.proofs.lemmas.List.Folds.{length-flat_map-take}
use Rattle.std.proofs.lemmas.Bool.{cases_lt}
use Rattle.std.proofs.lemmas.Bool.Decides.{nat_tests}
use Rattle.segment_core.specs.Segments.{SegmentView}
use Rattle.paged_view.specs.Pages.{used_bytes, all_used_bytes, page_at, no_page}
use Rattle.paged_view.specs.Reading.{Reading, HasRecord, size_of, first_record, after_first, moved, has_spent, unread}
use Rattle.paged_view.proofs.SpanLemmas.{drop-past}

abbrev View : ℕ → List SegmentView → ℕ → ℕ → ℕ → Reading
View room ps page off pending = record {
  room = room;
  pages = ps;
  head = take pending (unread ps page off);
  text = unread ps page (off + pending);
}

pub length-unread : (ps : List SegmentView) (page off : ℕ) → length (unread ps page off) ≡ length (all_used_bytes (drop page ps)) - off
length-unread ps page off = length-drop off (all_used_bytes (drop page ps))

-- the pages from one on are that page and those behind it
pub all_used_bytes-drop : (ps : List SegmentView) (i : ℕ) → i < length ps → all_used_bytes (drop i ps) ≡ used_bytes (page_at ps i) ++ all_used_bytes (drop (i + 1) ps)
all_used_bytes-drop ps i among = ap all_used_bytes (drop_more ps i no_page among)

-- a place in a page is a place in the pages from it on
pub within_parts : (ps : List SegmentView) (page off : ℕ) → off ≤ length (used_bytes (page_at ps page)) → off ≤ length (all_used_bytes (drop page ps))
within_parts ps page off within = elim (cases_lt page (length ps)) [
  | inl below ↦ omega (arith, ap length (all_used_bytes-drop ps page below), length-append (used_bytes (page_at ps page)) (all_used_bytes (drop (page + 1) ps)))
  | inr past ↦ omega (arith, ap (λ (p : SegmentView). length (used_bytes p)) (get_or_past ps page no_page past))
]

-- the page at a place, as the code reads it
pub part_here : (ps : List SegmentView) (page : ℕ) (p : SegmentView) (bytes : List ℕ) → page < length ps → p ≡ get_or ps page p → bytes ≡ used_bytes p → used_bytes (page_at ps page) ≡ bytes
part_here ps page p bytes among is reads =
    ap used_bytes (get_or_default ps page no_page p among ∙ sym is) ∙ sym reads

-- a page was passed
pub unread_past : (ps : List SegmentView) (page off : ℕ) (p : SegmentView) (bytes : List ℕ) → page < length ps → p ≡ get_or ps page p → bytes ≡ used_bytes p → length bytes ≤ off → unread ps (page + 1) (off - length bytes) ≡ unread ps page off
unread_past ps page off p bytes among is reads past =
    let all : all_used_bytes (drop page ps) ≡ bytes ++ all_used_bytes (drop (page + 1) ps) = all_used_bytes-drop ps page among ∙ ap (λ xs. xs ++ all_used_bytes (drop (page + 1) ps)) (part_here ps page p bytes among is reads) in
    let n : length bytes + (off - length bytes) ≡ off = omega arith in
    sym (ap (drop off) all ∙ ap (λ k. drop k (bytes ++ all_used_bytes (drop (page + 1) ps))) (sym n) ∙ drop-past bytes (all_used_bytes (drop (page + 1) ps)) (off - length bytes))

pub within_past : (ps : List SegmentView) (page off : ℕ) (p : SegmentView) (bytes : List ℕ) → page < length ps → p ≡ get_or ps page p → bytes ≡ used_bytes p → off ≤ length (all_used_bytes (drop page ps)) → off - length bytes ≤ length (all_used_bytes (drop (page + 1) ps))
within_past ps page off p bytes among is reads within =
    omega (arith, within, ap length (all_used_bytes-drop ps page among), length-append (used_bytes (page_at ps page)) (all_used_bytes (drop (page + 1) ps)), ap length (part_here ps page p bytes among is reads))

-- the pages before one and that page have no more bytes than all
pub length-all_used_bytes-passed : (ps qs : List SegmentView) (i : ℕ) (q : SegmentView) → qs ≡ ps → i < length qs → q ≡ get_or qs i q → length (all_used_bytes (take i qs)) + length (used_bytes q) ≤ length (all_used_bytes ps)
length-all_used_bytes-passed ps qs i q same among is =
    omega (arith, length-flat_map-take used_bytes qs i q among, ap (λ (p : SegmentView). length (used_bytes p)) is, ap (λ xs. length (all_used_bytes xs)) same)

-- the record at a place is what its first page has there and what stands in the pages behind
pub record_here : (ps rest : List SegmentView) (page off len : ℕ) (first : SegmentView) (behind : List SegmentView) (used piece : List ℕ) → rest ≡ drop page ps → rest ≡ first ∷ behind → used ≡ used_bytes first → piece ≡ take (length used - off) (drop off used) → off ≤ length (used_bytes (page_at ps page)) → take len (piece ++ (all_used_bytes behind ++ [])) ≡ take len (unread ps page off)
record_here ps rest page off len first behind used piece is parted reads piece_is within =
    let among : page < length ps = omega (arith, ap length is, ap length parted, length-drop page ps) in
    let all : all_used_bytes (drop page ps) ≡ used_bytes first ++ all_used_bytes behind = ap all_used_bytes (sym is ∙ parted) in
    let e : piece ≡ drop off (used_bytes first) = piece_is ∙ take_rest used off ∙ ap (drop off) reads in
    let same : used_bytes (page_at ps page) ≡ used_bytes first = let heads : page_at ps page ∷ drop (page + 1) ps ≡ first ∷ behind = sym (drop_more ps page no_page among) ∙ sym is ∙ parted in ap used_bytes (let f : page_at ps page ≡ first = cc in f) in
    ap (take len) (ap (λ xs. piece ++ xs) (append-nil (all_used_bytes behind)) ∙ ap (λ xs. xs ++ all_used_bytes behind) e ∙ sym (drop-append-le off (used_bytes first) (all_used_bytes behind) (omega (arith, within, ap length same))) ∙ ap (drop off) (sym all))

-- where the unread bytes begin in the first page, it isn't spent
pub not_spent : (room page off pending page' off' len : ℕ) (ps : List SegmentView) (w : Reading) → View room ps page off pending ≡ w → unread ps page' off' ≡ unread ps page (off + pending) → page' ≡ 0 → (page' < len → off' < length (used_bytes (page_at ps page'))) → len ≡ length ps → false ≡ has_spent w.text w.pages
not_spent room page off pending page' off' len [] w is same none byte long =
    ap (λ (v : Reading). has_spent v.text v.pages) is
not_spent room page off pending page' off' len (p ∷ ps) w is same none byte long =
    let within : off' < length (used_bytes p) = omega (arith, byte (omega arith), ap (λ k. length (used_bytes (page_at (p ∷ ps) k))) none) in
    let e : unread (p ∷ ps) 0 off' ≡ unread (p ∷ ps) page (off + pending) = ap (λ k. unread (p ∷ ps) k off') (sym none) ∙ same in
    let more : length (all_used_bytes ps) < length (unread (p ∷ ps) page (off + pending)) = omega (arith, ap length e, length-drop off' (used_bytes p ++ all_used_bytes ps), length-append (used_bytes p) (all_used_bytes ps)) in
    let f : false ≡ has_spent (unread (p ∷ ps) page (off + pending)) (p ∷ ps) = grind (arith, nat_tests) in
    f ∙ ap (λ (v : Reading). has_spent v.text v.pages) is

-- where they begin in a later page, it is
pub is_spent : (room page off pending page' off' : ℕ) (ps : List SegmentView) (w : Reading) → View room ps page off pending ≡ w → unread ps page' off' ≡ unread ps page (off + pending) → 0 < page' → page' ≤ length ps → true ≡ has_spent w.text w.pages
is_spent room page off pending page' off' [] w is same some among = absurd (omega arith)
is_spent room page off pending zero off' (p ∷ ps) w is same some among = absurd (omega arith)
is_spent room page off pending (suc n) off' (p ∷ ps) w is same some among =
    let e : all_used_bytes ps ≡ all_used_bytes (take n ps) ++ all_used_bytes (drop n ps) = ap all_used_bytes (sym (take-append-drop n ps)) ∙ flat_map-append used_bytes (take n ps) (drop n ps) in
    let less : length (unread (p ∷ ps) page (off + pending)) ≤ length (all_used_bytes ps) = omega (arith, ap length same, length-drop off' (all_used_bytes (drop n ps)), ap length e, length-append (all_used_bytes (take n ps)) (all_used_bytes (drop n ps))) in
    let f : true ≡ has_spent (unread (p ∷ ps) page (off + pending)) (p ∷ ps) = grind (arith, nat_tests) in
    f ∙ ap (λ (v : Reading). has_spent v.text v.pages) is

-- the place in the pages without the first one
pub within_rest : (ps : List SegmentView) (page off : ℕ) → 0 < page → off ≤ length (used_bytes (page_at ps page)) → off ≤ length (used_bytes (page_at (drop 1 ps) (page - 1)))
within_rest ps page off some within =
    let n : 1 + (page - 1) ≡ page = omega arith in
    omega (arith, within, ap (λ (p : SegmentView). length (used_bytes p)) (get_or-drop 1 ps (page - 1) no_page), ap (λ k. length (used_bytes (page_at ps k))) n)

-- the bytes from 4 on, and from a record's end on
pub unread_on : (ps : List SegmentView) (page off n : ℕ) → unread ps page (off + n) ≡ drop n (unread ps page off)
unread_on ps page off n = sym (drop-drop n off (all_used_bytes (drop page ps)))

-- a whole record stands behind its length
pub whole_behind : (ps : List SegmentView) (page off page' off' len : ℕ) → unread ps page' off' ≡ unread ps page (off + 4) → HasRecord (unread ps page off) → len ≡ size_of (unread ps page off) → off' ≤ length (all_used_bytes (drop page' ps)) → off' + len ≤ length (all_used_bytes (drop page' ps))
whole_behind ps page off page' off' len same has is within =
    omega (arith, has, is, within, ap length same, length-unread ps page' off', length-unread ps page (off + 4), length-unread ps page off)

pub moved_is : (room page off pending page1 off1 page2 off2 len : ℕ) (ps : List SegmentView) (w : Reading) → View room ps page off pending ≡ w → unread ps page1 off1 ≡ unread ps page (off + pending) → unread ps page2 off2 ≡ unread ps page1 (off1 + 4) → len ≡ size_of (unread ps page1 off1) → View room ps page2 off2 len ≡ moved w
moved_is room page off pending page1 off1 page2 off2 len ps w is start behind size =
    let text : List ℕ = unread ps page (off + pending) in
    let n : len ≡ size_of text = size ∙ ap size_of start in
    let e : unread ps page2 off2 ≡ drop 4 text = behind ∙ unread_on ps page1 off1 4 ∙ ap (drop 4) start in
    let head : take len (unread ps page2 off2) ≡ first_record text = ap (take len) e ∙ ap (λ k. take k (drop 4 text)) n in
    let rest : unread ps page2 (off2 + len) ≡ after_first text = unread_on ps page2 off2 len ∙ ap (drop len) e ∙ drop-drop len 4 text ∙ ap (λ k. drop (4 + k) text) n in
    let parted : (h t : List ℕ) → Reading = λ h t. record { room = room; pages = ps; head = h; text = t } in
    ap (λ h. parted h (unread ps page2 (off2 + len))) head ∙ ap (parted (first_record text)) rest ∙ ap moved is

-- whether so many bytes stand from a place on, from what is left of their number behind all pages
pub reaches_end : (left all off need n : ℕ) → left + all ≡ off + need → off ≤ all → n ≡ all - off → (IsTrue (left == 0) → need ≤ n) × (need ≤ n → IsTrue (left == 0))
reaches_end left all off need n passed within is =
    (λ yes. grind (arith, nat_tests), λ fits. grind (arith, nat_tests))

-- all bytes were read exactly where the place is behind the last page
pub read_out : (room page off pending page' off' len : ℕ) (ps : List SegmentView) (w : Reading) → View room ps page off pending ≡ w → unread ps page' off' ≡ unread ps page (off + pending) → page' ≤ len → (page' < len → off' < length (used_bytes (page_at ps page'))) → len ≡ length ps → (IsTrue (page' == len) → w.text ≡ []) × (w.text ≡ [] → IsTrue (page' == len))
read_out room page off pending page' off' len ps w is same among byte long =
    let text : unread ps page' off' ≡ w.text = same ∙ ap (λ (v : Reading). v.text) is in (
      λ yes. let at : page' ≡ len = grind (arith, nat_tests) in
          sym text ∙ ap (λ qs. drop off' (all_used_bytes qs)) (drop_all page' ps (omega (arith, at, long))) ∙ drop_all {X = ℕ} off' [] (omega arith),
      λ none. elim (cases_lt page' len) [
        | inl below ↦ absurd (omega (arith, byte below, ap length (text ∙ none), length-unread ps page' off', ap length (all_used_bytes-drop ps page' (omega (arith, below, long))), length-append (used_bytes (page_at ps page')) (all_used_bytes (drop (page' + 1) ps))))
        | inr past ↦ grind (arith, nat_tests)
      ],
    )
