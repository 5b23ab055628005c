use Rattle.std.specs.Prelude.{IsTrue, take}
use Rattle.std.specs.List.{list_all}
use Rattle.model_laws.specs.LawsOfPlanFits.{node_states_values}
use Rattle.model_laws.proofs.held.nodes_state_values.Given as goal

abbrev pub invariant-loop-node : goal.invariant-loop-node
invariant-loop-node l = IsTrue (list_all node_states_values (take l.node-index l.nodes))
