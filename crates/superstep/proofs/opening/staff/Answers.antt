-- A share was leased, and the worker opened.
use Rattle.std.proofs.Common.{length, subst, sym, ◌≡◌}
use Rattle.segment_core.specs.Segments.{PoolView}
use Rattle.segment_core.proofs.Holders.{length-free}
use Rattle.superstep.proofs.Ledgers.{is_crew}
use Rattle.superstep.proofs.opening.staff.Goals as goal

pub close-requires : goal.close-requires
close-requires g c = subst (λ (p : PoolView). length p.free ≡ p.total) (sym c.in_default.ensures.err) (length-free c.args.pool c.requires.free)

pub returns-in-Ok-open-clause-crew : goal.returns-in-Ok-open-clause-crew
returns-in-Ok-open-clause-crew g c =
    is_crew g.D.Spill.told c.args.plan.now c.args.allot.now c.args.disk c.args.pool c.lease.new.self c.in-Ok.purse c.in-Ok-open.worker c.requires.serving c.requires.new c.lease.ensures.total c.lease.ensures.size c.requires.free c.in-Ok.ensures.leases c.in-Ok-open.ensures.new
