use Rattle.std.proofs.Common.{All, take}
use Rattle.superstep.specs.Outer.{IsServedNode}
use Rattle.worked_engine.proofs.served.are_served.Given as goal

abbrev pub invariant-loop-node : goal.invariant-loop-node
invariant-loop-node l = All IsServedNode (take l.node-index l.nodes)
