-- The lot of the result was taken out.
use Rattle.superstep.proofs.Results.{holds_still, keeps_on, keeps_segments, lies, makes_result, may_take, rows_are_held, same_disk, sums_still}
use Rattle.superstep.proofs.executing.make_result.Goals as goal

pub exchange_lot-requires-clause-lot : goal.exchange_lot-requires-clause-lot
exchange_lot-requires-clause-lot g c = may_take g.D.Spill.told c.args.plan.now c.requires.rules.0 c.make_rows.new.worker c.args.place.now c.requires.place c.limits.ensures

pub returns-in-Ok-clause-beside : goal.returns-in-Ok-clause-beside
returns-in-Ok-clause-beside g c =
    lies g.D.Spill.told c.args.plan.now c.requires.rules.0 c.make_rows.new.worker c.exchange_lot.new.self c.in-Ok.ensures.sound c.args.place.now c.exchange_lot.new.lot c.requires.place c.exchange_lot.ensures.placed c.exchange_lot.ensures.given c.exchange_lot.ensures.stands

pub returns-in-Ok-clause-made : goal.returns-in-Ok-clause-made
returns-in-Ok-clause-made g c =
    makes_result g.D.Spill.told c.args.plan.now c.in-Ok.count c.args.worker.now c.make_rows.new.worker c.exchange_lot.new.self.storage.disk c.exchange_lot.new.lot c.in-Ok.ensures.made
    (holds_still g.D.Spill.told c.args.plan.now c.requires.rules.0 c.make_rows.new.worker c.exchange_lot.new.self c.in-Ok.ensures.sound c.args.place.now c.exchange_lot.new.lot c.requires.place c.exchange_lot.ensures.placed c.exchange_lot.ensures.given)
    (rows_are_held g.D.Spill.told c.args.plan.now c.requires.rules.0 c.make_rows.new.worker c.exchange_lot.new.self c.in-Ok.ensures.sound c.args.place.now c.exchange_lot.new.lot c.requires.place c.exchange_lot.ensures.placed c.exchange_lot.ensures.given)

pub returns-in-Ok-clause-keeps : goal.returns-in-Ok-clause-keeps
returns-in-Ok-clause-keeps g c =
    keeps_on g.D.Spill.told g.D.Spill.fault_count c.args.worker.now.storage c.make_rows.new.worker.storage c.exchange_lot.new.self.storage
    (keeps_segments g.D.Spill.told g.D.Spill.fault_count c.args.plan.now c.args.worker.now c.make_rows.new.worker c.make_rows.ensures.keeps c.make_rows.ensures.cause.cause.later)
    (same_disk g.D.Spill.told c.args.plan.now c.requires.rules.0 c.make_rows.new.worker c.exchange_lot.new.self c.in-Ok.ensures.sound c.args.place.now c.exchange_lot.new.lot c.requires.place c.exchange_lot.ensures.placed c.exchange_lot.ensures.given)
    (sums_still g.D.Spill.told c.args.plan.now c.requires.rules.0 c.make_rows.new.worker c.exchange_lot.new.self c.in-Ok.ensures.sound c.args.place.now c.exchange_lot.new.lot c.requires.place c.exchange_lot.ensures.placed c.exchange_lot.ensures.given)
