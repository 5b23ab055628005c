use Rattle.std.proofs.Common.{◌≡◌, ◌≤◌, ◌-◌, not}
use Rattle.flow_model.specs.Rows.{is_nothing}
use Rattle.flow_model.specs.Algebra.{given, source_numbers, DeltaState, delta_next, delta_states}
use Rattle.plain_full.specs.Demands.{first_of_states}
use Rattle.plain_full.proofs.FindLemmas.{first_on}
use Rattle.plain_full.proofs.states.first_of_delta.Given as goal

abbrev pub invariant-loop-step : goal.invariant-loop-step
invariant-loop-step l = record {
  stays : l.made.items ≡ l.fn.made.items;
  within : l.step ≤ l.delta.most;
  same : first_of_states l.shares.workers l.shares.have l.number l.delta.key.now 0 (delta_states (given (source_numbers l.nodes) l.inputs) l.nodes l.fn.made.items l.number l.delta.solution l.delta.workset l.delta.key.now l.delta.order.now l.delta.merge l.delta.most l.delta.delta l.delta.next) ≡ first_on l.shares.workers l.shares.have l.number l.delta.key.now (λ (s : DeltaState). not (is_nothing s.workset)) (delta_next (given (source_numbers l.nodes) l.inputs) l.nodes l.fn.made.items l.number l.delta.key.now l.delta.order.now l.delta.merge l.delta.delta l.delta.next) l.step (l.delta.most - l.step) l.state;
}

abbrev pub decreases-loop-step : goal.decreases-loop-step
decreases-loop-step l = l.delta.most - l.step
