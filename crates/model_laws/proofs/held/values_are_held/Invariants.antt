use Rattle.std.specs.Prelude.{IsTrue, take}
use Rattle.std.specs.List.{list_all}
use Rattle.flow_types.specs.Values.{is_value}
use Rattle.model_laws.proofs.held.values_are_held.Given as goal

abbrev pub invariant-loop-value : goal.invariant-loop-value
invariant-loop-value l = IsTrue (list_all is_value (take l.value-index l.values))
