use Rattle.std.proofs.Common.{◌≡◌, ◌≤◌, drop}
use Rattle.flow_model.specs.Algebra.{rows_at, given, source_numbers}
use Rattle.plain_eval.proofs.env.input_at.Given as goal

abbrev pub invariant-loop-node : goal.invariant-loop-node
invariant-loop-node l = record {
  few : l.place ≤ l.node-index;
  same : rows_at (given (source_numbers l.nodes) l.inputs) l.number ≡ rows_at (given (source_numbers (drop l.node-index l.nodes)) (drop l.place l.inputs)) l.number;
}
