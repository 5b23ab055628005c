use Rattle.std.proofs.Common.{[], ◌∷◌, ◌++◌, sym, subst, set}
use Rattle.lot_store.specs.Lots.{LotView}
use Rattle.lot_store.specs.Storage.{IsReadyAt, lot_at}
use Rattle.worker_storage.specs.Storages.{view_of, with_lot}
use Rattle.worker_storage.proofs.Lifting.{low_in, whole}
use Rattle.worker_storage.proofs.Swapping.{ready_exchanged, ready_front}
use Rattle.worker_storage.proofs.storage.WorkerStorage.exchange.Goals as goal

pub invariant_of-self : goal.invariant_of-self
invariant_of-self g c =
    let l = c.args.lot.now in
    let t = g.D.Spill.told c.self.inside.disk in
    subst (λ ys. IsReadyAt c.self.inside.size (whole t c.self.inside.purse ys)) (sym c.exchange_at.ensures.placed)
    (ready_front c.self.inside.size t c.self.inside.purse (set c.self.inside.lots.items c.args.at l) (lot_at c.self.inside.lots.items c.args.at l)
    (ready_exchanged c.self.inside.size t c.self.inside.purse c.self.inside.lots.items c.args.at l l (low_in _ _ c.args.at c.self.view_is c.requires.there) (subst (λ s. IsReadyAt s.size (with_lot l (view_of g.D.Spill.told s))) (sym c.self.view_is) c.requires.stands)))

pub returns-clause-stands : goal.returns-clause-stands
returns-clause-stands g c =
    let l = c.args.lot.now in
    let t = g.D.Spill.told c.self.inside.disk in
    subst (λ (k : LotView). IsReadyAt c.self.inside.size (whole t c.self.inside.purse (c.exchange_at.new.lots.items ++ k ∷ []))) (sym (c.exchange_at.ensures.given l))
    (subst (λ ys. IsReadyAt c.self.inside.size (whole t c.self.inside.purse (ys ++ lot_at c.self.inside.lots.items c.args.at l ∷ []))) (sym c.exchange_at.ensures.placed)
    (ready_exchanged c.self.inside.size t c.self.inside.purse c.self.inside.lots.items c.args.at l l (low_in _ _ c.args.at c.self.view_is c.requires.there) (subst (λ s. IsReadyAt s.size (with_lot l (view_of g.D.Spill.told s))) (sym c.self.view_is) c.requires.stands)))
