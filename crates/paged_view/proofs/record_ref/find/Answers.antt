-- The rest of this segment's bytes stands at the place.
use Rattle.paged_view.specs.Shares.{share_of}
use Rattle.paged_view.proofs.SpanLemmas.{found}
use Rattle.paged_view.proofs.record_ref.find.Goals as goal

pub returns-then-left-bytes : goal.returns-then-left-bytes
returns-then-left-bytes c =
    found (share_of c.args.share) c.args.segments.now c.loop-segment.segment-index c.loop-segment.left c.args.from c.segment-item.result c.bytes_of-bytes.result.now c.loop-segment-test.true c.segment-item.is c.bytes_of-bytes.ensures.value c.loop-segment.invariant c.if-left-bytes.true
