use Rattle.std.proofs.Common.{[], ◌∷◌, ◌≡◌, true, refl, sym, subst}
use Rattle.std.specs.List.{swap}
use Rattle.lot_store.specs.Lots.{LotView}
use Rattle.lot_store.specs.Storage.{IsReadyAt, lot_at}
use Rattle.worker_storage.specs.Storages.{KeepsStorage}
use Rattle.worker_storage.proofs.Lifting.{low_in, whole}
use Rattle.worker_storage.proofs.Swapping.{preserves_swapped, ready_swapped}
use Rattle.worker_storage.proofs.storage.WorkerStorage.swap.Goals as goal

pub invariant_of-self : goal.invariant_of-self
invariant_of-self g c =
    subst (λ ys. IsReadyAt c.self.inside.size (whole (g.D.Spill.told c.self.inside.disk) c.self.inside.purse ys)) (sym c.swap_at.ensures)
    (ready_swapped c.self.inside.lots.items c.args.one c.args.other (low_in _ _ c.args.one c.self.view_is c.requires.one) (low_in _ _ c.args.other c.self.view_is c.requires.other) c.self.inside.size (g.D.Spill.told c.self.inside.disk) c.self.inside.purse c.self.invariant)

pub returns-clause-keeps : goal.returns-clause-keeps
returns-clause-keeps g c =
    subst (λ ys. KeepsStorage g.D.Spill.told c.args.self.now (record { size = c.self.inside.size; purse = c.self.inside.purse; disk = c.self.inside.disk; lots = ys }) (c.args.one ∷ c.args.other ∷ []) (c.args.one ∷ c.args.other ∷ []) true) (sym c.swap_at.ensures)
    (subst (λ s. KeepsStorage g.D.Spill.told s (record { size = c.self.inside.size; purse = c.self.inside.purse; disk = c.self.inside.disk; lots = swap c.self.inside.lots.items c.args.one c.args.other }) (c.args.one ∷ c.args.other ∷ []) (c.args.one ∷ c.args.other ∷ []) true) c.self.view_is (record {
      size = refl;
      preserves = preserves_swapped c.self.inside.lots.items c.args.one c.args.other (low_in _ _ c.args.one c.self.view_is c.requires.one) (low_in _ _ c.args.other c.self.view_is c.requires.other) (g.D.Spill.told c.self.inside.disk) c.self.inside.purse
          (subst (λ s. (d : LotView) → (lot_at s.lots c.args.one d).stored.room ≡ (lot_at s.lots c.args.other d).stored.room) (sym c.self.view_is) c.requires.rooms)
          (subst (λ s. (d : LotView) → (lot_at s.lots c.args.one d).feed.reach ≡ (lot_at s.lots c.args.other d).feed.reach) (sym c.self.view_is) c.requires.reach);
    }))
