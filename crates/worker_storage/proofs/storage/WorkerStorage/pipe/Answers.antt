use Rattle.std.proofs.Common.{[], ◌∷◌, true, refl, sym, subst, OnOk}
use Rattle.flow_outside.specs.Blocks.{BothTold}
use Rattle.flow_outside.specs.Told.{IfTold}
use Rattle.lot_store.specs.Lots.{LotView}
use Rattle.lot_store.specs.Rows.{Gains, rows_of}
use Rattle.lot_store.specs.Storage.{lot_at}
use Rattle.lot_store.proofs.StorageLaws.{ready_at_after}
use Rattle.row_pipe.specs.Pipes.{GivesWithin, HasPassCause}
use Rattle.worker_storage.specs.Storages.{HoldsSome, KeepsStorage, MayRead, given}
use Rattle.worker_storage.proofs.Lifting.{gained_rows, holds_what_fits, lifted_two, low_in, may_pass, whole}
use Rattle.worker_storage.proofs.storage.WorkerStorage.pipe.Goals as goal

pub pipe_at-requires-clause-may : goal.pipe_at-requires-clause-may
pipe_at-requires-clause-may g c = λ d.
    may_pass c.self.inside.size (g.D.Spill.told c.self.inside.disk) c.self.inside.purse c.self.inside.lots.items c.args.from c.args.to d (low_in _ _ c.args.from c.self.view_is c.requires.there.0) (low_in _ _ c.args.to c.self.view_is c.requires.there.1) c.requires.there.2 c.self.invariant
    (subst (λ s. MayRead s.purse (lot_at s.lots c.args.from d)) (sym c.self.view_is) (c.requires.may d))

pub pipe_at-requires-clause-holds : goal.pipe_at-requires-clause-holds
pipe_at-requires-clause-holds g c = λ d.
    holds_what_fits c.self.inside.size (g.D.Spill.told c.self.inside.disk) c.self.inside.purse c.self.inside.lots.items c.args.from c.args.to d c.args.p.now.takes c.args.p.now.work (low_in _ _ c.args.from c.self.view_is c.requires.there.0) (low_in _ _ c.args.to c.self.view_is c.requires.there.1) c.requires.there.2 c.self.invariant
    (subst (λ s. GivesWithin c.args.p.now.takes c.args.p.now.work s.size (lot_at s.lots c.args.to d).feed.reach) (sym c.self.view_is) (c.requires.within d))
    (subst (λ s. IfTold (g.D.Spill.told s.disk) (HoldsSome c.args.p.now.takes (lot_at s.lots c.args.from d))) (sym c.self.view_is) (c.requires.holds d))

pub invariant_of-self : goal.invariant_of-self
invariant_of-self g c =
    ready_at_after c.self.inside.size (whole _ c.self.inside.purse c.self.inside.lots.items) (whole _ c.pipe_at.new.io.purse.now c.pipe_at.new.lots.items) (c.args.from ∷ c.args.to ∷ []) (c.args.to ∷ []) true
    (lifted_two _ _ c.self.inside.purse c.pipe_at.new.io.purse.now c.self.inside.lots.items c.pipe_at.new.lots.items c.args.from c.args.to (low_in _ _ c.args.from c.self.view_is c.requires.there.0) (low_in _ _ c.args.to c.self.view_is c.requires.there.1) c.requires.there.2 c.pipe_at.ensures.count c.pipe_at.ensures.same c.pipe_at.ensures.passes) c.self.invariant

pub returns-clause-rows : goal.returns-clause-rows
returns-clause-rows g c =
    subst (λ s. (d : LotView) → OnOk c.pipe_at.result (BothTold (g.D.Spill.told s.disk) (g.D.Spill.told c.pipe_at.new.io.disk.now) (Gains (lot_at s.lots c.args.to d) (lot_at c.pipe_at.new.lots.items c.args.to d)
    (given c.args.p.now.takes c.args.p.now.work (rows_of (g.D.Spill.told s.disk) (lot_at s.lots c.args.from d)))))) c.self.view_is
    (λ d. gained_rows c.pipe_at.result _ _ c.args.p.now.takes c.args.p.now.work (lot_at c.self.inside.lots.items c.args.from d) (lot_at c.self.inside.lots.items c.args.to d) (lot_at c.pipe_at.new.lots.items c.args.to d)
    (subst (λ s. IfTold (g.D.Spill.told s.disk) (HoldsSome c.args.p.now.takes (lot_at s.lots c.args.from d))) (sym c.self.view_is) (c.requires.holds d)) (c.pipe_at.ensures.rows d))

pub returns-clause-keeps : goal.returns-clause-keeps
returns-clause-keeps g c =
    subst (λ s. KeepsStorage g.D.Spill.told s (record { size = c.self.inside.size; purse = c.pipe_at.new.io.purse.now; disk = c.pipe_at.new.io.disk.now; lots = c.pipe_at.new.lots.items }) (c.args.from ∷ c.args.to ∷ []) (c.args.to ∷ []) true) c.self.view_is (record {
      size = refl;
      preserves = lifted_two _ _ c.self.inside.purse c.pipe_at.new.io.purse.now c.self.inside.lots.items c.pipe_at.new.lots.items c.args.from c.args.to (low_in _ _ c.args.from c.self.view_is c.requires.there.0) (low_in _ _ c.args.to c.self.view_is c.requires.there.1) c.requires.there.2 c.pipe_at.ensures.count c.pipe_at.ensures.same c.pipe_at.ensures.passes;
    })

pub returns-clause-cause : goal.returns-clause-cause
returns-clause-cause g c =
    subst (λ s. (d : LotView) → HasPassCause (g.D.Spill.fault_count s.disk) (g.D.Spill.fault_count c.pipe_at.new.io.disk.now) (g.D.Spill.told s.disk) (lot_at c.pipe_at.new.lots.items c.args.from d) c.pipe_at.result) c.self.view_is c.pipe_at.ensures.cause
