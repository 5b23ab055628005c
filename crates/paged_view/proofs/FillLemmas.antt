-- Pages that are filled from the front.
use Rattle.std.proofs.Common.{◌≡◌, ℕ, ◌+◌, ◌-◌, ◌<◌, ◌≤◌, List, ◌++◌, length, take, drop, min, sym, ap, ◌∙◌, arith, append_assoc, length-append}
use Rattle.std.proofs.Math.Seq.{take-add}
use Rattle.std.proofs.lemmas.List.{length-drop, length-take, length-take-le, take_all, take_at}
use Rattle.segment_core.specs.Segments.{SegmentView}
use Rattle.paged_view.specs.Pages.{body, used_bytes, used, IsSameSegment}
use Rattle.paged_view.specs.Writing.{written}
use Rattle.paged_view.proofs.PageLemmas.{body-written, length-written}

-- How many bytes are used, of a page whose header says no more than there are.
pub filled_is : (p : SegmentView) (filled : List ℕ) → used p ≤ length (body p) → filled ≡ used_bytes p → length filled ≡ used p
filled_is p filled within is = ap length is ∙ length-take-le (used p) (body p) within

-- Bytes that were written behind the used ones of a page, and counted, are used behind them.
more : (p q r : SegmentView) (bytes : List ℕ) → used p + length bytes ≤ length (body p) → 0 < length bytes
    → q ≡ written p (16 + used p) bytes → body r ≡ body q → used r ≡ used p + length bytes
    → used_bytes r ≡ used_bytes p ++ bytes
more p q r bytes fits some is same count =
    let front : List ℕ = used_bytes p in
    let e : body r ≡ front ++ (bytes ++ drop (used p + length bytes) (body p)) = same ∙ ap body is ∙ body-written p (used p) bytes fits some in
    let long : length (front ++ bytes) ≡ used p + length bytes = omega (arith, length-append front bytes, length-take-le (used p) (body p) (omega arith)) in
    ap (λ k. take k (body r)) count ∙ ap (take (used p + length bytes)) (e ∙ sym (append_assoc front bytes (drop (used p + length bytes) (body p)))) ∙ take_at (front ++ bytes) (drop (used p + length bytes) (body p)) (used p + length bytes) long

pub part_more : (p q r : SegmentView) (filled bytes : List ℕ) (n : ℕ) → used p ≤ length (body p) → filled ≡ used_bytes p
    → length filled + n ≤ length (body p) → n ≤ length bytes → 0 < n
    → q ≡ written p (16 + length filled) (take n bytes) → body r ≡ body q → used r ≡ length filled + n
    → used_bytes r ≡ used_bytes p ++ take n bytes
part_more p q r filled bytes n within is fits among some put same count =
    let f : length filled ≡ used p = filled_is p filled within is in
    let k : length (take n bytes) ≡ n = length-take-le n bytes among in
    more p q r (take n bytes) (omega (arith, f, k, fits)) (omega (arith, k, some)) (put ∙ ap (λ i. written p (16 + i) (take n bytes)) f) same (omega (arith, count, f, k))

pub same_segment : (p q r : SegmentView) (filled bytes : List ℕ) (n : ℕ) → used p ≤ length (body p) → filled ≡ used_bytes p
    → length filled + n ≤ length (body p) → n ≤ length bytes → 0 < n
    → q ≡ written p (16 + length filled) (take n bytes) → IsSameSegment q r
    → IsSameSegment p r
same_segment p q r filled bytes n within is fits among some put same =
    let k : length (take n bytes) ≡ n = length-take-le n bytes among in
    record {
      id = same.id ∙ ap (λ (s : SegmentView). s.id) put;
      len = same.len ∙ ap (λ (s : SegmentView). length s.bytes) put ∙ length-written p (length filled) (take n bytes) (omega (arith, k, fits)) (omega (arith, k, some));
    }

-- A page that is the same segment has a body of the same length.
pub body_stays : (p q : SegmentView) → IsSameSegment p q → length (body q) ≡ length (body p)
body_stays p q same = omega (arith, length-drop 16 p.bytes, length-drop 16 q.bytes, same.len)

-- A piece of a record that the page has room for goes in whole.
pub whole_piece : (p q : SegmentView) (seen piece : List ℕ) (at n : ℕ) → IsSameSegment p q → used q ≡ used p + at → used p + length seen ≤ length (body p) → at ≤ length seen
    → piece ≡ take (length piece) (drop at seen) → n ≡ min (length piece) (length (body q) - used q) → n ≡ length piece
whole_piece p q seen piece at n same filled room within part count =
    omega (arith, count, filled, room, within, body_stays p q same, ap length part, length-take (length piece) (drop at seen), length-drop at seen)

pub added_piece : (p q r : SegmentView) (seen piece : List ℕ) (at n : ℕ) → n ≡ length piece → piece ≡ take (length piece) (drop at seen) → used_bytes q ≡ used_bytes p ++ take at seen → used_bytes r ≡ used_bytes q ++ take n piece
    → used_bytes r ≡ used_bytes p ++ take (at + length piece) seen
added_piece p q r seen piece at n whole part before added =
    added ∙ ap (λ xs. xs ++ take n piece) before ∙ append_assoc (used_bytes p) (take at seen) (take n piece)
    ∙ ap (λ ys. used_bytes p ++ (take at seen ++ ys)) (take_all n piece (omega (arith, whole)) ∙ part)
    ∙ ap (λ ys. used_bytes p ++ ys) (sym (take-add at (length piece) seen))
