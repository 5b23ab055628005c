use Rattle.std.proofs.Common.{◌≡◌, filter, drop}
use Rattle.flow_model.specs.declared.plan.Node.{Node}
use Rattle.flow_model.specs.Algebra.{is_source}
use Rattle.job_words.specs.Requests.{all_bound}
use Rattle.job_inputs.specs.Sources.{first_unbound}
use Rattle.job_inputs.proofs.sources.first_unbound.Given as goal

abbrev pub invariant-loop-i : goal.invariant-loop-i
invariant-loop-i l =
    first_unbound (all_bound l.bindings) (filter (λ (node : Node). is_source node.op) l.nodes)
    ≡ first_unbound (all_bound l.bindings) (filter (λ (node : Node). is_source node.op) (drop l.i l.nodes))
