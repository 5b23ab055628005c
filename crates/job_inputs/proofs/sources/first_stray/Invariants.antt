use Rattle.std.proofs.Common.{◌≡◌, [], filter, take, drop}
use Rattle.flow_model.specs.declared.plan.Node.{Node}
use Rattle.flow_model.specs.Algebra.{is_source}
use Rattle.job_words.specs.Requests.{all_bound}
use Rattle.job_inputs.specs.Sources.{first_stray}
use Rattle.job_inputs.proofs.sources.first_stray.Given as goal

abbrev pub invariant-loop-i : goal.invariant-loop-i
invariant-loop-i l =
    first_stray (filter (λ (node : Node). is_source node.op) l.nodes) [] (all_bound l.bindings)
    ≡ first_stray (filter (λ (node : Node). is_source node.op) l.nodes) (all_bound (take l.i l.bindings)) (all_bound (drop l.i l.bindings))
