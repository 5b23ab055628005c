-- One node more, and all of them.
use Rattle.std.proofs.Common.{All, arith, refl, subst, sym, ap, ◌∙◌, ◌++◌, ◌∷◌, [], take}
use Rattle.std.proofs.lemmas.List.{take_all, take_more}
use Rattle.std.proofs.lemmas.List.Elements.{All-append, All-cons, All-nil}
use Rattle.flow_model.specs.declared.plan.Node.{Node}
use Rattle.worker_core.proofs.PipeLists.{item_in}
use Rattle.superstep.specs.Outer.{IsServedNode}
use Rattle.worked_engine.proofs.served.are_served.Goals as goal

pub loop-node-preserved : goal.loop-node-preserved
loop-node-preserved c =
    let is = item_in c.args.nodes.now c.args.nodes.now refl c.loop-node.node-index c.node-item.result c.loop-node-test.true c.node-item.is in
    subst (All IsServedNode) (sym (take_more c.args.nodes.now c.loop-node.node-index c.node-item.result c.loop-node-test.true ∙ ap (λ (y : Node). take c.loop-node.node-index c.args.nodes.now ++ y ∷ []) (is c.node-item.result)))
    (All-append IsServedNode (take c.loop-node.node-index c.args.nodes.now) (c.node-item.result ∷ []) c.loop-node.invariant (All-cons IsServedNode c.node-item.result [] (c.is_served_node.ensures c.if-not-is_served_node.false) (All-nil IsServedNode)))

pub returns : goal.returns
returns c = λ yes_it. subst (All IsServedNode) (take_all c.loop-node.node-index c.args.nodes.now (omega (arith, c.loop-node-test.false))) c.loop-node.invariant
