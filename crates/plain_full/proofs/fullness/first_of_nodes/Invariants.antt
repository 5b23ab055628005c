use Rattle.std.proofs.Common.{◌≡◌, [], drop}
use Rattle.flow_model.specs.Algebra.{given, source_numbers}
use Rattle.plain_full.specs.Demands.{first_of_nodes}
use Rattle.plain_full.proofs.fullness.first_of_nodes.Given as goal

abbrev pub invariant-loop-node : goal.invariant-loop-node
invariant-loop-node l =
    first_of_nodes l.shares.workers l.shares.have (given (source_numbers l.nodes) l.inputs) l.nodes [] l.nodes
    ≡ first_of_nodes l.shares.workers l.shares.have (given (source_numbers l.nodes) l.inputs) l.nodes l.made.items (drop l.node-index l.nodes)
