use Rattle.std.proofs.Common.{◌≡◌, take, fold}
use Rattle.flow_model.specs.Algebra.{given, source_numbers, body_step, and_rows, nodes_of}
use Rattle.plain_eval.proofs.body.superstep.Given as goal

abbrev pub invariant-loop-node : goal.invariant-loop-node
invariant-loop-node l = l.made.items ≡ fold (body_step (given (source_numbers l.nodes) l.inputs) l.held) (and_rows l.fn.made.items l.number l.fn.rows.items) (nodes_of l.number (take l.node-index l.nodes))
