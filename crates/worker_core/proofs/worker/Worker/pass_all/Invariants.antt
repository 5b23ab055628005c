use Rattle.std.proofs.Common.{◌≡◌, ◌≤◌, [], ◌∷◌, Some, take}
use Rattle.flow_model.specs.declared.plan.Node.{Node}
use Rattle.flow_model.specs.Rules.{node_at}
use Rattle.row_pipe.specs.Works.{work_of}
use Rattle.row_pipe.specs.declared.work.Work.{Work}
use Rattle.worker_core.specs.Workers.{IsSound, KeepsWorker, StagesAll}
use Rattle.worker_core.proofs.worker.Worker.pass_all.Given as goal

abbrev pub invariant-inputs : goal.invariant-inputs
invariant-inputs g l = record {
  sound : IsSound g.D.Spill.told l.plan l.self;
  keeps : KeepsWorker g.D.Spill.told l.fn.self l.self (l.to ∷ l.inputs) (l.to ∷ []);
  later : g.D.Spill.fault_count l.fn.self.storage.disk ≤ g.D.Spill.fault_count l.self.storage.disk;
  stages : (o : Node) (w : Work) → node_at l.plan.nodes l.to ≡ Some o → Some w ≡ work_of o.op → StagesAll g.D.Spill.told l.plan.nodes (take l.input-index l.inputs) l.to w l.fn.self.storage l.self.storage;
}
