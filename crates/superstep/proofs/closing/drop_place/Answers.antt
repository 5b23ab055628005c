-- One segment was leased, and went back.
use Rattle.std.proofs.Common.{ap, arith, ◌≡◌}
use Rattle.segment_core.specs.Segments.{segment_sum}
use Rattle.lot_store.specs.Lots.{held}
use Rattle.lot_store.proofs.StorageLaws.{ready_of_at}
use Rattle.superstep.proofs.Emits.{ready_lent}
use Rattle.superstep.proofs.Ledgers.{all_back, leased, may_return, same_weight}
use Rattle.superstep.proofs.closing.drop_place.Goals as goal

pub drop_lent-purse-requires-clause-ready : goal.drop_lent-purse-requires-clause-ready
drop_lent-purse-requires-clause-ready g c =
    ready_of_at _ _ (ready_lent c.args._plan.now (g.D.Spill.told c.args.disk.now) c.args.place c.args.pool.now c.lease.new.self c.in-Ok.purse c.requires.lies c.requires.free.0 c.requires.free.1 c.lease.ensures.total c.lease.ensures.size c.in-Ok.ensures.leases
    (omega (arith, c.in-Ok.ensures.full.0, c.in-Ok.ensures.full.1)))

pub restore-requires : goal.restore-requires
restore-requires g c =
    may_return c.lease.new.self c.drop_lent-purse.result.pages
    (same_weight c.lease.new.self c.in-Ok.purse.pages c.drop_lent-purse.result.pages
    (λ h. let none : segment_sum h (held c.args.place) ≡ 0 = ap (segment_sum h) c.requires.lies.bare.none in omega (arith, c.drop_lent-purse.ensures.segments h, none))
    (leased c.args.pool.now c.lease.new.self c.in-Ok.purse c.lease.ensures.total c.lease.ensures.size c.in-Ok.ensures.leases c.requires.free.0))

pub returns-clause-free : goal.returns-clause-free
returns-clause-free g c =
    all_back c.lease.new.self c.restore.new.self c.drop_lent-purse.result.pages c.restore.ensures.total c.restore.ensures.size c.restore.ensures.ledger
    (same_weight c.lease.new.self c.in-Ok.purse.pages c.drop_lent-purse.result.pages
    (λ h. let none : segment_sum h (held c.args.place) ≡ 0 = ap (segment_sum h) c.requires.lies.bare.none in omega (arith, c.drop_lent-purse.ensures.segments h, none))
    (leased c.args.pool.now c.lease.new.self c.in-Ok.purse c.lease.ensures.total c.lease.ensures.size c.in-Ok.ensures.leases c.requires.free.0))
