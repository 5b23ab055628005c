use Rattle.std.proofs.Common.{[], ◌∷◌, true, refl, subst, OnOk}
use Rattle.flow_outside.specs.Blocks.{BothTold}
use Rattle.lot_store.specs.Rows.{Gains}
use Rattle.lot_store.specs.Storage.{lot_at}
use Rattle.lot_store.proofs.StorageLaws.{ready_at_after}
use Rattle.worker_storage.specs.Storages.{KeepsStorage}
use Rattle.worker_storage.proofs.Lifting.{gained_none, lifted, low_in, ready_at, whole}
use Rattle.worker_storage.proofs.storage.WorkerStorage.rest.Goals as goal

pub invariant_of-self : goal.invariant_of-self
invariant_of-self g c =
    ready_at_after c.self.inside.size (whole _ c.self.inside.purse c.self.inside.lots.items) (whole _ c.rest_at.new.purse c.rest_at.new.lots.items) (c.args.at ∷ []) (c.args.at ∷ []) true
    (lifted _ _ c.self.inside.purse c.rest_at.new.purse c.self.inside.lots.items c.rest_at.new.lots.items c.args.at (0 ∷ []) true (low_in _ _ c.args.at c.self.view_is c.requires) c.rest_at.ensures.count c.rest_at.ensures.same c.rest_at.ensures.writes) c.self.invariant

pub returns-clause-keeps : goal.returns-clause-keeps
returns-clause-keeps g c =
    subst (λ s. KeepsStorage g.D.Spill.told s (record { size = c.self.inside.size; purse = c.rest_at.new.purse; disk = c.rest_at.new.disk; lots = c.rest_at.new.lots.items }) (c.args.at ∷ []) (c.args.at ∷ []) true) c.self.view_is (record {
      size = refl;
      preserves = lifted _ _ c.self.inside.purse c.rest_at.new.purse c.self.inside.lots.items c.rest_at.new.lots.items c.args.at (0 ∷ []) true (low_in _ _ c.args.at c.self.view_is c.requires) c.rest_at.ensures.count c.rest_at.ensures.same c.rest_at.ensures.writes;
    })

pub returns-clause-rows : goal.returns-clause-rows
returns-clause-rows g c =
    subst (λ s. (d : _) → OnOk c.rest_at.result (BothTold (g.D.Spill.told s.disk) (g.D.Spill.told c.rest_at.new.disk) (Gains (lot_at s.lots c.args.at d) (lot_at c.rest_at.new.lots.items c.args.at d) []))) c.self.view_is
    (λ d. gained_none c.rest_at.result _ _ (lot_at c.self.inside.lots.items c.args.at d) (lot_at c.rest_at.new.lots.items c.args.at d) (c.rest_at.ensures.same_rows d))

pub rest_at-requires-clause-ready : goal.rest_at-requires-clause-ready
rest_at-requires-clause-ready g c = λ d.
    ready_at c.self.inside.size (g.D.Spill.told c.self.inside.disk) c.self.inside.purse c.self.inside.lots.items c.args.at d (low_in _ _ c.args.at c.self.view_is c.requires) c.self.invariant
