use Rattle.std.proofs.Common.{◌≡◌, filter, drop}
use Rattle.flow_model.specs.declared.plan.Node.{Node}
use Rattle.flow_model.specs.Algebra.{is_source}
use Rattle.job_inputs.specs.Sources.{names_source}
use Rattle.job_inputs.proofs.sources.names_source.Given as goal

abbrev pub invariant-loop-i : goal.invariant-loop-i
invariant-loop-i l =
    names_source (filter (λ (node : Node). is_source node.op) l.nodes) l.name
    ≡ names_source (filter (λ (node : Node). is_source node.op) (drop l.i l.nodes)) l.name
