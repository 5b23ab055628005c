use Rattle.std.proofs.Common.{subst}
use Rattle.lot_store.specs.Storage.{IsReadyAt}
use Rattle.worker_storage.specs.Storages.{view_of}
use Rattle.worker_storage.proofs.storage.WorkerStorage.limits.Goals as goal

pub returns : goal.returns
returns g c =
    subst (λ s. IsReadyAt s.size (view_of g.D.Spill.told s)) c.self.view_is c.self.invariant
