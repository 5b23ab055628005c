use Rattle.std.proofs.Common.{◌≡◌, length}
use Rattle.std.proofs.lemmas.List.Elements.{All-push, All-same}
use Rattle.segment_core.specs.Segments.{SegmentView}
use Rattle.worked_post.proofs.helpers.move_one.Goals as goal

pub returns-clause-sized : goal.returns-clause-sized
returns-clause-sized g c = λ n from to.
    let taken = c.take_one-segment.ensures.sized n from in
    (taken.0, All-same (λ (p : SegmentView). length p.bytes ≡ n) _ _ c.put.ensures.pages (All-push (λ (p : SegmentView). length p.bytes ≡ n) _ _ to taken.1))
