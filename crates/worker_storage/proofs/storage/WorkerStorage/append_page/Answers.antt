use Rattle.std.proofs.Common.{[], ◌∷◌, true, refl, sym, ap, ◌∙◌, subst, arith, length}
use Rattle.lot_store.specs.Storage.{held_count, with_segment}
use Rattle.lot_store.proofs.StorageLaws.{ready_at_after}
use Rattle.worker_storage.specs.Storages.{KeepsStorage}
use Rattle.worker_storage.proofs.Lifting.{lifted, low_in, ready_at, ready_with_page, whole}
use Rattle.worker_storage.proofs.storage.WorkerStorage.append_page.Goals as goal

pub append_page_at-requires-clause-ready : goal.append_page_at-requires-clause-ready
append_page_at-requires-clause-ready g c = λ d.
    ready_at c.self.inside.size _ (with_segment c.args.page c.self.inside.purse) c.self.inside.lots.items c.args.at d (low_in _ _ c.args.at c.self.view_is c.requires.there)
    (ready_with_page c.self.inside.size _ c.self.inside.purse c.self.inside.lots.items c.args.page (c.requires.sized ∙ sym (ap (λ s. s.size) c.self.view_is))
    (omega (arith, c.requires.room, ap (λ s. length s.purse.pages) c.self.view_is, ap (λ s. s.purse.room) c.self.view_is, ap (λ s. held_count s.lots) c.self.view_is)) c.self.invariant)

pub invariant_of-self : goal.invariant_of-self
invariant_of-self g c =
    ready_at_after c.self.inside.size (whole _ (with_segment c.args.page c.self.inside.purse) c.self.inside.lots.items) (whole _ c.append_page_at.new.purse c.append_page_at.new.lots.items) (c.args.at ∷ []) (c.args.at ∷ []) true
    (lifted _ _ (with_segment c.args.page c.self.inside.purse) c.append_page_at.new.purse c.self.inside.lots.items c.append_page_at.new.lots.items c.args.at (0 ∷ []) true (low_in _ _ c.args.at c.self.view_is c.requires.there) c.append_page_at.ensures.count c.append_page_at.ensures.same c.append_page_at.ensures.writes)
    (ready_with_page c.self.inside.size _ c.self.inside.purse c.self.inside.lots.items c.args.page (c.requires.sized ∙ sym (ap (λ s. s.size) c.self.view_is))
    (omega (arith, c.requires.room, ap (λ s. length s.purse.pages) c.self.view_is, ap (λ s. s.purse.room) c.self.view_is, ap (λ s. held_count s.lots) c.self.view_is)) c.self.invariant)

pub returns-clause-keeps : goal.returns-clause-keeps
returns-clause-keeps g c =
    subst (λ s. KeepsStorage g.D.Spill.told (record s { purse = with_segment c.args.page s.purse }) (record { size = c.self.inside.size; purse = c.append_page_at.new.purse; disk = c.append_page_at.new.disk; lots = c.append_page_at.new.lots.items }) (c.args.at ∷ []) (c.args.at ∷ []) true) c.self.view_is (record {
      size = refl;
      preserves = lifted _ _ (with_segment c.args.page c.self.inside.purse) c.append_page_at.new.purse c.self.inside.lots.items c.append_page_at.new.lots.items c.args.at (0 ∷ []) true (low_in _ _ c.args.at c.self.view_is c.requires.there) c.append_page_at.ensures.count c.append_page_at.ensures.same c.append_page_at.ensures.writes;
    })
