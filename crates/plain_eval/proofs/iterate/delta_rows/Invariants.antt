use Rattle.std.proofs.Common.{◌≡◌}
use Rattle.flow_model.specs.Algebra.{given, source_numbers, delta_start, delta_states}
use Rattle.flow_model.specs.States.{last_state}
use Rattle.plain_eval.proofs.IterationLemmas.{delta_last}
use Rattle.plain_eval.proofs.iterate.delta_rows.Given as goal

abbrev pub invariant-loop-left : goal.invariant-loop-left
invariant-loop-left l = record {
  stays : l.made.items ≡ l.fn.made.items;
  same : last_state (delta_start l.fn.made.items l.delta.solution l.delta.workset l.delta.key.now l.delta.order.now) (delta_states (given (source_numbers l.nodes) l.inputs) l.nodes l.fn.made.items l.number l.delta.solution l.delta.workset l.delta.key.now l.delta.order.now l.delta.merge l.delta.most l.delta.delta l.delta.next) ≡ delta_last (given (source_numbers l.nodes) l.inputs) l.nodes l.fn.made.items l.number l.delta.key.now l.delta.order.now l.delta.merge l.delta.delta l.delta.next l.left l.state;
}

abbrev pub decreases-loop-left : goal.decreases-loop-left
decreases-loop-left l = l.left
