use Rattle.std.proofs.Common.{◌≡◌, ◌+◌, length, take}
use Rattle.paged_view.specs.Shares.{shares}
use Rattle.paged_view.proofs.record_ref.find.Given as goal

abbrev pub invariant-loop-segment : goal.invariant-loop-segment
invariant-loop-segment l = l.from ≡ length (shares l.share (take l.segment-index l.segments)) + l.left
