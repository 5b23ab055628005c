use Rattle.std.specs.Prelude.{IsTrue, take}
use Rattle.std.specs.List.{list_all}
use Rattle.flow_types.specs.LawsOfFolds.{states_long}
use Rattle.model_laws.proofs.held.aggs_state_longs.Given as goal

abbrev pub invariant-loop-agg : goal.invariant-loop-agg
invariant-loop-agg l = IsTrue (list_all states_long (take l.agg-index l.aggs))
