-- Segments were leased, and went back.
use Rattle.std.proofs.Common.{arith, ap, sym, ◌∙◌, ◌≡◌, Some}
use Rattle.std.specs.Option.{option_copied}
use Rattle.flow_model.specs.Rules.{node_at}
use Rattle.lot_store.proofs.StorageLaws.{ready_of_at}
use Rattle.superstep.proofs.Emits.{given_back, keeps_place, lies_still, ready_lent, stays_held}
use Rattle.superstep.proofs.Ledgers.{all_back, may_return}
use Rattle.superstep.proofs.emitting.lent_rows.Goals as goal

pub take_rows-rows-requires-clause-ready : goal.take_rows-rows-requires-clause-ready
take_rows-rows-requires-clause-ready g c =
    ready_of_at _ _ (ready_lent c.args.plan.now (g.D.Spill.told c.args.disk.now) c.args.place.now c.args.pool.now c.lease.new.self c.in-Ok.purse c.requires.lies c.requires.free.0 c.requires.free.1 c.lease.ensures.total c.lease.ensures.size c.in-Ok.ensures.leases (omega (arith, c.in-Ok.ensures.full.0, c.in-Ok.ensures.full.1)))

pub restore-requires : goal.restore-requires
restore-requires g c = may_return c.lease.new.self c.take_rows-rows.new.purse.pages (given_back c.args.plan.now (g.D.Spill.told c.args.disk.now) c.args.place.now c.args.pool.now c.lease.new.self c.in-Ok.purse c.requires.lies c.requires.free.0 c.requires.free.1 c.lease.ensures.total c.lease.ensures.size c.in-Ok.ensures.leases (g.D.Spill.told c.take_rows-rows.new.disk) c.take_rows-rows.new.place c.take_rows-rows.new.purse c.take_rows-rows.ensures.bare c.take_rows-rows.ensures.reads)

pub returns-clause-keeps : goal.returns-clause-keeps
returns-clause-keeps g c =
    let found : node_at c.args.plan.now.nodes c.args.plan.now.result ≡ Some c.in-Some.node.now = sym (ap (λ ns. node_at ns c.args.plan.now.result) c.as_slice.ensures) ∙ sym c.node_at.ensures ∙ ap option_copied c.in-Some.is in
    keeps_place g.D.Spill.told g.D.Spill.fault_count c.args.plan.now c.in-Some.node.now c.args.disk.now c.take_rows-rows.new.disk c.args.place.now c.take_rows-rows.new.place c.args.pool.now c.restore.new.self found c.take_rows-rows.ensures.tells c.take_rows-rows.ensures.cause.later
    (lies_still c.args.plan.now (g.D.Spill.told c.args.disk.now) c.args.place.now c.args.pool.now c.lease.new.self c.in-Ok.purse c.requires.lies c.requires.free.0 c.requires.free.1 c.lease.ensures.total c.lease.ensures.size c.in-Ok.ensures.leases (g.D.Spill.told c.take_rows-rows.new.disk) c.take_rows-rows.new.place c.take_rows-rows.new.purse c.take_rows-rows.ensures.bare c.take_rows-rows.ensures.reads) c.requires.holds
    (stays_held c.args.plan.now (g.D.Spill.told c.args.disk.now) c.args.place.now c.args.pool.now c.lease.new.self c.in-Ok.purse c.requires.lies c.requires.free.0 c.requires.free.1 c.lease.ensures.total c.lease.ensures.size c.in-Ok.ensures.leases (g.D.Spill.told c.take_rows-rows.new.disk) c.take_rows-rows.new.place c.take_rows-rows.new.purse c.take_rows-rows.ensures.bare c.take_rows-rows.ensures.reads (omega (arith, c.in-Ok.ensures.full.0, c.in-Ok.ensures.full.1)) c.in-Some.node.now.schema)
    (c.restore.ensures.total ∙ c.lease.ensures.total) (c.restore.ensures.size ∙ c.lease.ensures.size)
    (all_back c.lease.new.self c.restore.new.self c.take_rows-rows.new.purse.pages c.restore.ensures.total c.restore.ensures.size c.restore.ensures.ledger (given_back c.args.plan.now (g.D.Spill.told c.args.disk.now) c.args.place.now c.args.pool.now c.lease.new.self c.in-Ok.purse c.requires.lies c.requires.free.0 c.requires.free.1 c.lease.ensures.total c.lease.ensures.size c.in-Ok.ensures.leases (g.D.Spill.told c.take_rows-rows.new.disk) c.take_rows-rows.new.place c.take_rows-rows.new.purse c.take_rows-rows.ensures.bare c.take_rows-rows.ensures.reads))
