use Rattle.std.proofs.Common.{◌≡◌, take}
use Rattle.plan_check.specs.Places.{places}
use Rattle.plan_check.proofs.names.Names.of.Given as goal

abbrev pub invariant-loop-node : goal.invariant-loop-node
invariant-loop-node l = l.places.items ≡ places (take l.node-index l.nodes)
