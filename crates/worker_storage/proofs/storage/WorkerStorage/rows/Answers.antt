use Rattle.std.proofs.Common.{[], ◌∷◌, true, refl, sym, subst, ◌≡◌, IfOk}
use Rattle.flow_outside.specs.Told.{IfTold}
use Rattle.lot_store.specs.Lots.{LotView}
use Rattle.lot_store.specs.Rows.{IsWhole, rows_in}
use Rattle.lot_store.specs.Storage.{lot_at}
use Rattle.lot_store.proofs.StorageLaws.{ready_at_after}
use Rattle.worker_storage.specs.Storages.{HasCountCause, KeepsStorage, MayRead, row_count}
use Rattle.worker_storage.proofs.Lifting.{lifted, low_in, ready_at, whole}
use Rattle.worker_storage.proofs.storage.WorkerStorage.rows.Goals as goal

pub count_at-requires-clause-may : goal.count_at-requires-clause-may
count_at-requires-clause-may g c =
    subst (λ s. (d : LotView) → MayRead s.purse (lot_at s.lots c.args.at d)) (sym c.self.view_is) c.requires.may

pub count_at-requires-clause-ready : goal.count_at-requires-clause-ready
count_at-requires-clause-ready g c = λ d.
    ready_at c.self.inside.size (g.D.Spill.told c.self.inside.disk) c.self.inside.purse c.self.inside.lots.items c.args.at d (low_in _ _ c.args.at c.self.view_is c.requires.there) c.self.invariant

pub count_at-requires-clause-whole : goal.count_at-requires-clause-whole
count_at-requires-clause-whole g c =
    subst (λ s. (d : LotView) → IfTold (g.D.Spill.told s.disk) (λ m. IsWhole m (lot_at s.lots c.args.at d))) (sym c.self.view_is) c.requires.whole

pub invariant_of-self : goal.invariant_of-self
invariant_of-self g c =
    ready_at_after c.self.inside.size (whole _ c.self.inside.purse c.self.inside.lots.items) (whole _ c.count_at.new.purse c.count_at.new.lots.items) (c.args.at ∷ []) [] true
    (lifted _ _ c.self.inside.purse c.count_at.new.purse c.self.inside.lots.items c.count_at.new.lots.items c.args.at [] true (low_in _ _ c.args.at c.self.view_is c.requires.there) c.count_at.ensures.count_same c.count_at.ensures.same c.count_at.ensures.reads) c.self.invariant

pub returns-clause-keeps : goal.returns-clause-keeps
returns-clause-keeps g c =
    subst (λ s. KeepsStorage g.D.Spill.told s (record { size = c.self.inside.size; purse = c.count_at.new.purse; disk = c.count_at.new.disk; lots = c.count_at.new.lots.items }) (c.args.at ∷ []) [] true) c.self.view_is (record {
      size = refl;
      preserves = lifted _ _ c.self.inside.purse c.count_at.new.purse c.self.inside.lots.items c.count_at.new.lots.items c.args.at [] true (low_in _ _ c.args.at c.self.view_is c.requires.there) c.count_at.ensures.count_same c.count_at.ensures.same c.count_at.ensures.reads;
    })

pub returns-clause-count : goal.returns-clause-count
returns-clause-count g c =
    subst (λ s. (d : LotView) → IfOk c.count_at.result (λ count. IfTold (g.D.Spill.told s.disk) (λ m. count ≡ row_count (rows_in m (lot_at s.lots c.args.at d))))) c.self.view_is c.count_at.ensures.count

pub returns-clause-cause : goal.returns-clause-cause
returns-clause-cause g c =
    subst (λ s. (d : LotView) → HasCountCause (g.D.Spill.fault_count s.disk) (g.D.Spill.fault_count c.count_at.new.disk) (g.D.Spill.told s.disk) (lot_at c.count_at.new.lots.items c.args.at d) c.count_at.result) c.self.view_is c.count_at.ensures.cause
