use Rattle.std.proofs.Common.{◌≡◌, false}
use Rattle.flow_model.specs.Algebra.{given, source_numbers, bulk_start, bulk_states}
use Rattle.flow_model.specs.States.{last_state}
use Rattle.plain_eval.proofs.IterationLemmas.{bulk_state, bulk_last}
use Rattle.plain_eval.proofs.iterate.bulk_rows.Given as goal

abbrev pub invariant-loop-left : goal.invariant-loop-left
invariant-loop-left l = record {
  stays : l.made.items ≡ l.fn.made.items;
  same : last_state (bulk_start l.fn.made.items l.bulk.init) (bulk_states (given (source_numbers l.nodes) l.inputs) l.nodes l.fn.made.items l.number l.bulk.init l.bulk.most l.bulk.next l.bulk.until) ≡ bulk_last (given (source_numbers l.nodes) l.inputs) l.nodes l.fn.made.items l.number l.bulk.next l.bulk.until l.left (bulk_state l.rows.items false);
}

abbrev pub decreases-loop-left : goal.decreases-loop-left
decreases-loop-left l = l.left
