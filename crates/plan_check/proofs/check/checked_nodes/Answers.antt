use Rattle.plan_check.specs.Walks.{unwalked, walked_on}
use Rattle.plan_check.proofs.WalkLemmas.{walk_on, walk_fault}
use Rattle.plan_check.proofs.check.checked_nodes.Goals as goal

pub loop-node-preserved : goal.loop-node-preserved
loop-node-preserved c =
    let names = c.args.names.now in
    walk_on names c.loop-node.walk c.step.new.self c.in-Some.node c.loop-node.nodes c.next_node.new.nodes (walked_on names c.args.nodes unwalked)
    c.in-Some.ensures c.loop-node.invariant c.in-Ok.ensures

pub returns-in-Err : goal.returns-in-Err
returns-in-Err c =
    let names = c.args.names.now in
    walk_fault names c.loop-node.walk c.in-Some.node c.loop-node.nodes c.next_node.new.nodes (walked_on names c.args.nodes unwalked) c.in-Err.fault
    c.in-Some.ensures c.loop-node.invariant c.in-Err.ensures
