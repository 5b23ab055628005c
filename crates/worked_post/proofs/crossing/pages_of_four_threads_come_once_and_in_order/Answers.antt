use Rattle.std.proofs.lemmas.Result.{IfOk-at_ok}
use Rattle.segment_core.specs.Segments.{PurseView}
use Rattle.segment_core.specs.Ledger.{MayReturn}
use Rattle.segment_core.proofs.Holders.{MayReturn-segment_sum}
use Rattle.worked_post.proofs.crossing.pages_of_four_threads_come_once_and_in_order.Goals as goal

pub restore-requires : goal.restore-requires
restore-requires g c =
    MayReturn-segment_sum c.lease.new.self c.expect-all.result.pages c.play-all.result.pages c.play-all.ensures.segments
    (IfOk-at_ok (λ (p : PurseView). MayReturn c.lease.new.self p.pages) c.expect-all.ensures c.lease.ensures.may_return)
