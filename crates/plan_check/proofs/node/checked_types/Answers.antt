use Rattle.std.proofs.Common.{◌≡◌, IfOk, Result, subst}
use Rattle.flow_model.specs.declared.plan.Node.{Node}
use Rattle.flow_model.specs.declared.plan_code.PlanCode.{PlanCode}
use Rattle.plan_check.specs.Steps.{with_types}
use Rattle.plan_check.proofs.NodeLemmas.{refused_node, unrefused_node}
use Rattle.plan_check.proofs.node.checked_types.Goals as goal

pub returns-in-Some : goal.returns-in-Some
returns-in-Some c = refused_node c.args.names.now c.args.done.now c.args.node.now c.in-Some.code c.in-Some.ensures

pub returns : goal.returns
returns c =
    subst (λ (made : Result Node PlanCode). IfOk c.types_of.result (λ types. with_types c.args.node.now types ≡ made))
    (unrefused_node c.args.names.now c.args.done.now c.args.node.now c.in-None.ensures) c.types_of.ensures
