-- The ledger of the opened pool has the pool and the purse that is still out as its holders.
use Rattle.std.proofs.Common.{◌≡◌, [], ◌∷◌, arith}
use Rattle.std.proofs.lemmas.Result.{IfOk-at_ok}
use Rattle.segment_core.specs.Segments.{PoolView}
use Rattle.segment_core.specs.Ledger.{IsLedger, Leases}
use Rattle.segment_core.proofs.Holders.{IsLedger-segment_sum_all, MayReturn-IsLedger}
use Rattle.worked_segments.proofs.tests.segments_are_leased_and_come_home.Goals as goal

pub restore-requires-2 : goal.restore-requires-2
restore-requires-2 g c =
    let opened = IfOk-at_ok (λ (p : PoolView). IsLedger p.total p.size (p.free ∷ [])) c.expect-pool.ensures c.open.ensures.ledger in
    let first = (IfOk-at_ok (Leases c.expect-pool.result c.lease.new.self) c.expect-two.ensures c.lease.ensures.leases).segments in
    let second = (IfOk-at_ok (Leases c.lease_fault-2.new.pool c.lease-2.new.self) c.expect-one.ensures c.lease-2.ensures.leases).segments in
    let total : c.restore.new.self.total ≡ c.expect-pool.result.total = omega arith in
    let size : c.restore.new.self.size ≡ c.expect-pool.result.size = omega arith in
    let held : IsLedger c.restore.new.self.total c.restore.new.self.size (c.restore.new.self.free ∷ c.mark_first-2.new.purse.pages ∷ []) =
    rw (total, size) (IsLedger-segment_sum_all _ _ (c.expect-pool.result.free ∷ []) _
    (λ h. omega (arith, first h, second h, c.lease_fault.ensures.segments h, c.lease_fault-2.ensures.segments h, c.mark_first.ensures.segments h, c.mark_first-2.ensures.segments h, c.restore.ensures.segments h))
    opened) in
    MayReturn-IsLedger _ _ [] held
