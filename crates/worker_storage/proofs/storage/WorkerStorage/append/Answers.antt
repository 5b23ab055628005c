use Rattle.std.proofs.Common.{[], ◌∷◌, true, refl, subst, length, OnOk}
use Rattle.flow_outside.specs.Blocks.{BothTold}
use Rattle.lot_store.specs.Rows.{Gains}
use Rattle.lot_store.specs.Storage.{lot_at}
use Rattle.lot_store.proofs.StorageLaws.{ready_at_after}
use Rattle.worker_storage.specs.Storages.{IsShort, KeepsStorage}
use Rattle.worker_storage.proofs.Lifting.{gained_row, lifted, low_in, ready_at, whole}
use Rattle.worker_storage.proofs.storage.WorkerStorage.append.Goals as goal

pub invariant_of-self : goal.invariant_of-self
invariant_of-self g c =
    ready_at_after c.self.inside.size (whole _ c.self.inside.purse c.self.inside.lots.items) (whole _ c.append_at.new.purse c.append_at.new.lots.items) (c.args.at ∷ []) (c.args.at ∷ []) true
    (lifted _ _ c.self.inside.purse c.append_at.new.purse c.self.inside.lots.items c.append_at.new.lots.items c.args.at (0 ∷ []) true (low_in _ _ c.args.at c.self.view_is c.requires.there) c.append_at.ensures.count c.append_at.ensures.same c.append_at.ensures.writes) c.self.invariant

pub returns-clause-keeps : goal.returns-clause-keeps
returns-clause-keeps g c =
    subst (λ s. KeepsStorage g.D.Spill.told s (record { size = c.self.inside.size; purse = c.append_at.new.purse; disk = c.append_at.new.disk; lots = c.append_at.new.lots.items }) (c.args.at ∷ []) (c.args.at ∷ []) true) c.self.view_is (record {
      size = refl;
      preserves = lifted _ _ c.self.inside.purse c.append_at.new.purse c.self.inside.lots.items c.append_at.new.lots.items c.args.at (0 ∷ []) true (low_in _ _ c.args.at c.self.view_is c.requires.there) c.append_at.ensures.count c.append_at.ensures.same c.append_at.ensures.writes;
    })

pub returns-clause-rows : goal.returns-clause-rows
returns-clause-rows g c =
    subst (λ s. (d : _) → IsShort s.size (lot_at s.lots c.args.at d).feed.reach (length (g.X.Span.seen c.args.row.now)) → OnOk c.append_at.result (BothTold (g.D.Spill.told s.disk) (g.D.Spill.told c.append_at.new.disk)
    (Gains (lot_at s.lots c.args.at d) (lot_at c.append_at.new.lots.items c.args.at d) (g.X.Span.seen c.args.row.now ∷ [])))) c.self.view_is
    (λ d short. gained_row c.append_at.result c.self.inside.size _ _ c.self.inside.purse c.self.inside.lots.items c.args.at d (lot_at c.append_at.new.lots.items c.args.at d) (g.X.Span.seen c.args.row.now) (low_in _ _ c.args.at c.self.view_is c.requires.there) c.self.invariant.stand short (c.append_at.ensures.added d))

pub append_at-requires-clause-ready : goal.append_at-requires-clause-ready
append_at-requires-clause-ready g c = λ d.
    ready_at c.self.inside.size (g.D.Spill.told c.self.inside.disk) c.self.inside.purse c.self.inside.lots.items c.args.at d (low_in _ _ c.args.at c.self.view_is c.requires.there) c.self.invariant
