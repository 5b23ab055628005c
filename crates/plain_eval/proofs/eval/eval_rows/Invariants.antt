use Rattle.std.proofs.Common.{◌≡◌, [], take, fold}
use Rattle.flow_model.specs.Algebra.{given, source_numbers, outer_step, nodes_of}
use Rattle.plain_eval.proofs.eval.eval_rows.Given as goal

abbrev pub invariant-loop-node : goal.invariant-loop-node
invariant-loop-node l =
    l.made.items ≡ fold (outer_step (given (source_numbers l.nodes) l.inputs) l.nodes) [] (nodes_of 0 (take l.node-index l.nodes))
