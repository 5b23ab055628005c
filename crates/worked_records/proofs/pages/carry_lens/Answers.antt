-- What comes home weighs what was leased.
use Rattle.std.proofs.Common.{arith, ap}
use Rattle.std.proofs.lemmas.Result.{IfOk-at_ok}
use Rattle.segment_core.specs.Segments.{PurseView, segment_sum}
use Rattle.segment_core.specs.Ledger.{MayReturn}
use Rattle.segment_core.proofs.Holders.{MayReturn-segment_sum}
use Rattle.paged_view.specs.Writing.{Writing}
use Rattle.paged_view.specs.Reading.{Reading}
use Rattle.worked_records.proofs.pages.carry_lens.Goals as goal

pub restore-requires : goal.restore-requires
restore-requires g c =
    let may = IfOk-at_ok (λ (p : PurseView). MayReturn c.lease.new.self p.pages) c.expect-purse.ensures c.lease.ensures.may_return in
    MayReturn-segment_sum c.lease.new.self c.expect-purse.result.pages c.end.result.pages
    (λ h. omega (arith, c.come_home.ensures.segments h, c.carry.ensures.segments h, ap (λ (w : Writing). segment_sum h w.pages) c.new-writer.ensures, ap (λ (r : Reading). segment_sum h r.pages) c.new-reader.ensures, ap (λ (p : PurseView). segment_sum h p.pages) c.end.ensures))
    may
