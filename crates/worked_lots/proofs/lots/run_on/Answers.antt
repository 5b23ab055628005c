-- What comes home weighs what was leased.
use Rattle.std.proofs.lemmas.Result.{IfOk-at_ok}
use Rattle.segment_core.specs.Segments.{PurseView}
use Rattle.segment_core.specs.Ledger.{MayReturn}
use Rattle.segment_core.proofs.Holders.{MayReturn-segment_sum}
use Rattle.worked_lots.proofs.lots.run_on.Goals as goal

pub restore-requires : goal.restore-requires
restore-requires g c =
    let may = IfOk-at_ok (λ (p : PurseView). MayReturn c.lease.new.self p.pages) c.expect-purse.ensures c.lease.ensures.may_return in
    MayReturn-segment_sum c.lease.new.self c.expect-purse.result.pages c.with_lot-answer.new.purse.pages c.with_lot-answer.ensures may
