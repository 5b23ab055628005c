use Rattle.std.proofs.Common.{◌≡◌, length}
use Rattle.plan_check.specs.Walks.{unwalked, walked_on}
use Rattle.plan_check.proofs.check.checked_nodes.Given as goal

abbrev pub invariant-loop-node : goal.invariant-loop-node
invariant-loop-node l = walked_on l.names l.fn.nodes unwalked ≡ walked_on l.names l.nodes l.walk

abbrev pub decreases-loop-node : goal.decreases-loop-node
decreases-loop-node l = length l.nodes
