use Rattle.std.proofs.Common.{◌≤◌, ◌<◌, List, suc}
use Rattle.std.specs.List.{AllByRecursion}
use Rattle.flow_model.specs.declared.made.Made.{Made}
use Rattle.flow_model.specs.Env.{Tuples}
use Rattle.worker_core.specs.Workers.{IsSound}
use Rattle.superstep.specs.Outer.{HoldsInputs, HoldsUpTo, KeepsAll, evaluated}
use Rattle.superstep.proofs.outer.make_outer.Given as goal

abbrev pub invariant-nodes : goal.invariant-nodes
invariant-nodes g l = record {
  sound : IsSound g.D.Spill.told l.plan l.worker;
  keeps : KeepsAll g.D.Spill.told l.plan l.fn.worker l.worker;
  later : g.D.Spill.fault_count l.fn.worker.storage.disk ≤ g.D.Spill.fault_count l.worker.storage.disk;
  below : (inputs : List Tuples) → AllByRecursion (λ (e : Made). e.number < suc l.node-index) (evaluated l.plan inputs l.node-index);
  rows : (inputs : List Tuples) → HoldsInputs g.D.Spill.told l.plan inputs l.fn.worker → HoldsUpTo g.D.Spill.told l.plan inputs l.node-index l.worker;
}
