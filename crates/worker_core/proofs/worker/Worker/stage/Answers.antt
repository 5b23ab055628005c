-- All inputs of the node were passed.
use Rattle.std.proofs.Common.{◌≡◌, Some, ap, sym, ◌∙◌, subst}
use Rattle.std.specs.Prelude.{IsSome}
use Rattle.std.specs.Option.{option_copied}
use Rattle.flow_model.specs.declared.plan.Node.{Node}
use Rattle.flow_model.specs.Rules.{node_at, references}
use Rattle.row_pipe.specs.Works.{work_of}
use Rattle.worker_core.proofs.NodeRows.{stages_end}
use Rattle.worker_core.proofs.worker.Worker.stage.Goals as goal

pub returns-clause-stages : goal.returns-clause-stages
returns-clause-stages g c =
    let both : Some c.in-Some.found.now ≡ Some c.requires.node.node = sym (ap option_copied c.in-Some.is) ∙ c.node_at.ensures ∙ ap (λ ns. node_at ns c.args.node) c.as_slice.ensures ∙ c.requires.node.found in
    let same : c.in-Some.found.now ≡ c.requires.node.node = cc in
    let some : IsSome (work_of c.in-Some.found.now.op) = subst (λ (m : Node). IsSome (work_of m.op)) (sym same) c.requires.node.some in
    stages_end g.D.Spill.told c.pass_all.result c.args.plan.now.nodes c.args.node c.row_inputs.result.now c.args.self.now c.pass_all.new.self c.requires.node
    (c.row_inputs.ensures some ∙ ap (λ (m : Node). references m.op) same) c.pass_all.ensures.stages
