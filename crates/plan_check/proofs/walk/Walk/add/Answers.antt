use Rattle.std.proofs.Common.{arith}
use Rattle.plan_check.proofs.WalkLemmas.{added_is}
use Rattle.plan_check.proofs.walk.Walk.add.Goals as goal

pub returns : goal.returns
returns c =
    added_is c.args.self.now c.self.inside.done.items c.push_node.new.done.items c.self.inside.iteration c.opened_at-iteration.result c.len.result c.args.node
    c.self.view_is c.self.invariant (omega arith) c.opened_at-iteration.ensures c.in_default.ensures.ok
