-- The rows of the result were counted.
use Rattle.superstep.proofs.Making.{keeps_both}
use Rattle.superstep.proofs.Results.{keeps_read, result_low, rows_made, the_result}
use Rattle.superstep.proofs.executing.make_rows.Goals as goal

pub returns-in-Ok-clause-made : goal.returns-in-Ok-clause-made
returns-in-Ok-clause-made g c =
    rows_made g.D.Spill.told c.args.plan.now c.rows.result c.args.worker.now c.make_outer.new.worker c.rows.new.self c.make_outer.ensures.keeps c.in-Ok.ensures.rows c.rows.ensures.same c.rows.ensures.count

pub returns-in-Ok-clause-keeps : goal.returns-in-Ok-clause-keeps
returns-in-Ok-clause-keeps g c =
    let found = the_result g.D.Spill.told c.args.plan.now c.requires.rules.0 in
    keeps_both g.D.Spill.told c.args.plan.now c.args.worker.now c.make_outer.new.worker c.rows.new.self c.make_outer.ensures.keeps
    (keeps_read g.D.Spill.told c.args.plan.now c.args.plan.now.result c.make_outer.new.worker c.rows.new.self (result_low c.args.plan.now found.0 c.requires.rules.0 found.1) c.rows.ensures.keeps)
