use Rattle.std.proofs.Common.{◌≡◌, ℕ, ◌<◌, length, is_ok}
use Rattle.flow_outside.specs.Causes.{HasStreamCause}
use Rattle.lot_store.specs.Lots.{LotView, empty}
use Rattle.lot_store.specs.Storage.{lot_at}
use Rattle.worker_storage.specs.Storages.{KeepsStorage, all_places}
use Rattle.worker_storage.proofs.storage.WorkerStorage.drop_all.Given as goal

abbrev pub invariant-loop-at : goal.invariant-loop-at
invariant-loop-at g l = record {
  keeps : KeepsStorage g.D.Spill.told l.fn.self l.self (all_places (length l.fn.self.lots)) (all_places (length l.fn.self.lots)) (is_ok l.answer);
  empty_below : (i : ℕ) (d : LotView) → i < l.at → lot_at l.self.lots i d ≡ empty (lot_at l.fn.self.lots i d).stored.room (lot_at l.fn.self.lots i d).feed.reach;
  cause : HasStreamCause (g.D.Spill.fault_count l.fn.self.disk) (g.D.Spill.fault_count l.self.disk) (g.D.Spill.told l.fn.self.disk) l.answer;
  supply : 0 < length l.self.purse.pages;
}
