use Rattle.std.proofs.Common.{[], ◌∷◌, refl, subst, is_ok}
use Rattle.lot_store.proofs.StorageLaws.{ready_at_after}
use Rattle.worker_storage.specs.Storages.{KeepsStorage}
use Rattle.worker_storage.proofs.Lifting.{lifted, low_in, ready_at, whole}
use Rattle.worker_storage.proofs.storage.WorkerStorage.drop_lot.Goals as goal

pub invariant_of-self : goal.invariant_of-self
invariant_of-self g c =
    ready_at_after c.self.inside.size (whole _ c.self.inside.purse c.self.inside.lots.items) (whole _ c.drop_at.new.purse c.drop_at.new.lots.items) (c.args.at ∷ []) (c.args.at ∷ []) (is_ok c.drop_at.result)
    (lifted _ _ c.self.inside.purse c.drop_at.new.purse c.self.inside.lots.items c.drop_at.new.lots.items c.args.at (0 ∷ []) (is_ok c.drop_at.result) (low_in _ _ c.args.at c.self.view_is c.requires.there) c.drop_at.ensures.count c.drop_at.ensures.same c.drop_at.ensures.preserves) c.self.invariant

pub returns-clause-keeps : goal.returns-clause-keeps
returns-clause-keeps g c =
    subst (λ s. KeepsStorage g.D.Spill.told s (record { size = c.self.inside.size; purse = c.drop_at.new.purse; disk = c.drop_at.new.disk; lots = c.drop_at.new.lots.items }) (c.args.at ∷ []) (c.args.at ∷ []) (is_ok c.drop_at.result)) c.self.view_is (record {
      size = refl;
      preserves = lifted _ _ c.self.inside.purse c.drop_at.new.purse c.self.inside.lots.items c.drop_at.new.lots.items c.args.at (0 ∷ []) (is_ok c.drop_at.result) (low_in _ _ c.args.at c.self.view_is c.requires.there) c.drop_at.ensures.count c.drop_at.ensures.same c.drop_at.ensures.preserves;
    })

pub drop_at-requires-clause-ready : goal.drop_at-requires-clause-ready
drop_at-requires-clause-ready g c = λ d.
    ready_at c.self.inside.size (g.D.Spill.told c.self.inside.disk) c.self.inside.purse c.self.inside.lots.items c.args.at d (low_in _ _ c.args.at c.self.view_is c.requires.there) c.self.invariant
