use Rattle.std.proofs.Common.{ap, subst, arith, length, is_ok}
use Rattle.lot_store.specs.Lots.{LotView, empty}
use Rattle.lot_store.specs.Storage.{IsReadyAt}
use Rattle.worker_storage.specs.Storages.{all_places, view_of}
use Rattle.worker_storage.proofs.Lifting.{cause_first, empty_more, frees_all, keeps_more, purse_grows}
use Rattle.worker_storage.proofs.storage.WorkerStorage.drop_all.Goals as goal

pub loop-at-preserved : goal.loop-at-preserved
loop-at-preserved g c = record {
  keeps = keeps_more g.D.Spill.told c.args.self.now c.loop-at.self c.drop_lot-dropped.new.self c.loop-at.at (is_ok c.loop-at.answer) (is_ok c.drop_lot-dropped.result) (is_ok c.first_fault-answer.result)
      (omega (arith, c.loop-at-test.true, c.len-at-end.ensures, c.self.inside.lots.ok.0, ap (λ s. length s.lots) c.self.view_is)) c.first_fault-answer.ensures.ok c.first_fault-answer.ensures.both c.loop-at.invariant.keeps c.drop_lot-dropped.ensures.keeps;
  empty_below = empty_more g.D.Spill.told c.args.self.now c.loop-at.self c.drop_lot-dropped.new.self c.loop-at.at (all_places (length c.args.self.now.lots)) (is_ok c.loop-at.answer) (is_ok c.drop_lot-dropped.result) c.loop-at.invariant.keeps c.drop_lot-dropped.ensures.keeps c.loop-at.invariant.empty_below c.drop_lot-dropped.ensures.empty;
  cause = cause_first _ _ _ _ _ _ c.loop-at.answer c.drop_lot-dropped.result c.first_fault-answer.result c.first_fault-answer.ensures.same c.first_fault-answer.ensures.fault c.loop-at.invariant.keeps.preserves.told c.loop-at.invariant.cause c.drop_lot-dropped.ensures.cause;
  supply = omega (arith, c.loop-at.invariant.supply, purse_grows g.D.Spill.told c.loop-at.self c.drop_lot-dropped.new.self c.loop-at.at _ _ (is_ok c.drop_lot-dropped.result) (empty 0 0) (omega (arith, c.loop-at-test.true, c.len-at-end.ensures, c.self.inside.lots.ok.0, ap (λ s. length s.lots) c.self.view_is, c.loop-at.invariant.keeps.preserves.count)) c.drop_lot-dropped.ensures.keeps (c.drop_lot-dropped.ensures.empty (empty 0 0)));
}

pub returns-clause-freed : goal.returns-clause-freed
returns-clause-freed g c =
    frees_all g.D.Spill.told c.loop-at.answer c.args.self.now c.loop-at.self (all_places (length c.args.self.now.lots)) (subst (λ s. IsReadyAt s.size (view_of g.D.Spill.told s)) c.self.view_is c.self.invariant) c.loop-at.invariant.keeps
    (λ i d low. ap (λ (l : LotView). l.stored.run) (c.loop-at.invariant.empty_below i d (omega (arith, low, c.loop-at-test.false, c.len-at-end.ensures, c.self.inside.lots.ok.0, ap (λ s. length s.lots) c.self.view_is, c.loop-at.invariant.keeps.preserves.count))))
