-- All lots were emptied.
use Rattle.std.proofs.Common.{◌+◌, ap, sym, ◌∙◌, subst}
use Rattle.segment_core.specs.Segments.{segment_sum}
use Rattle.lot_store.specs.Storage.{held_sum}
use Rattle.worker_storage.specs.Storages.{all_places}
use Rattle.std.proofs.Common.{length, is_ok}
use Rattle.worker_core.specs.Workers.{IsWorkerOf, SparesBeside}
use Rattle.worker_core.proofs.Ending.{spares_beside}
use Rattle.worker_core.proofs.NewWorkers.{all_emptied, all_home}
use Rattle.worker_core.proofs.NodeRows.{some_supply}
use Rattle.worker_core.proofs.worker.Worker.end.Goals as goal

pub drop_all-emptied-requires : goal.drop_all-emptied-requires
drop_all-emptied-requires g c =
    some_supply g.D.Spill.told c.requires.0 _ (subst (λ w. IsWorkerOf g.D.Spill.told c.requires.0 w) (sym c.self.view_is) c.requires.1)

pub returns-clause-segments : goal.returns-clause-segments
returns-clause-segments g c = λ h.
    ap (λ (p : _). segment_sum h p.pages) c.into_parts-purse.ensures.purse
    ∙ all_home g.D.Spill.told c.self.inside.storage c.drop_all-emptied.new.self (all_places (length c.self.inside.storage.lots)) (is_ok c.drop_all-emptied.result) c.drop_all-emptied.ensures.keeps
    (all_emptied c.self.inside.storage c.drop_all-emptied.new.self c.drop_all-emptied.ensures.keeps.preserves.count c.drop_all-emptied.ensures.empty) h
    ∙ ap (λ (w : _). segment_sum h w.storage.purse.pages + held_sum h w.storage.lots) c.self.view_is

pub returns-clause-beside : goal.returns-clause-beside
returns-clause-beside g c =
    subst (λ (w : _). SparesBeside g.D.Spill.told w.storage c.into_parts-purse.result.1) c.self.view_is
    (spares_beside g.D.Spill.told c.self.inside.storage c.drop_all-emptied.new.self _ (all_places (length c.self.inside.storage.lots)) (all_places (length c.self.inside.storage.lots)) (is_ok c.drop_all-emptied.result) c.into_parts-purse.ensures.disk c.drop_all-emptied.ensures.keeps)
