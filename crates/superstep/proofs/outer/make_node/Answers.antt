-- A node that goes row by row.
use Rattle.superstep.proofs.Making.{keeps_all, makes_node, some_of}
use Rattle.superstep.proofs.outer.make_node.Goals as goal

pub returns-in_default : goal.returns-in_default
returns-in_default g c =
    let some = some_of c.args.node.now.op c.in_default.not-Source c.requires.served.op in
    record {
      worker = c.stage.ensures.worker;
      sound = c.stage.ensures.sound;
      made = makes_node g.D.Spill.told c.stage.result c.args.plan.now.nodes c.args.node.now c.args.worker.now c.stage.new.self c.requires.found c.stage.ensures.stages;
      keeps = keeps_all g.D.Spill.told c.args.plan.now c.args.node.now c.args.worker.now c.stage.new.self c.requires.rules.0 c.requires.rules.1 c.requires.found c.requires.served.outer some (c.stage.ensures.keeps c.args.node.now c.requires.found);
      cause = c.stage.ensures.cause;
    }
