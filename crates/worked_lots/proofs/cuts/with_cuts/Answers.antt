use Rattle.std.proofs.Common.{[], ◌∷◌, true, ap, arith, length, refl}
use Rattle.lot_store.specs.Lots.{held}
use Rattle.lot_store.specs.Storage.{StaysStanding, alone}
use Rattle.worked_lots.proofs.WorkedLemmas.{all_home, count_same, ready_untold, untold_on}
use Rattle.worked_lots.proofs.cuts.with_cuts.Goals as goal

pub drop_lot-dropped-requires-clause-supply : goal.drop_lot-dropped-requires-clause-supply
drop_lot-dropped-requires-clause-supply g c some =
    omega (arith, count_same _ _ c.args.lot c.cut_and_read-answer.new.lot c.args.purse.now c.cut_and_read-answer.new.purse _ c.cut_and_read-answer.ensures, c.requires.enough)

pub drop_lot-dropped-requires-clause-ready : goal.drop_lot-dropped-requires-clause-ready
drop_lot-dropped-requires-clause-ready g c =
    ready_untold _ c.cut_and_read-answer.new.lot c.cut_and_read-answer.new.purse (untold_on _ _ _ c.requires.untold c.cut_and_read-answer.ensures.told)
    (omega (arith, count_same _ _ c.args.lot c.cut_and_read-answer.new.lot c.args.purse.now c.cut_and_read-answer.new.purse _ c.cut_and_read-answer.ensures, c.cut_and_read-answer.ensures.purse_room, ap (λ l. length (held l)) c.requires.fresh, c.requires.room))

pub returns-in-Ok : goal.returns-in-Ok
returns-in-Ok g c =
    all_home _ _ _ _ c.args.lot c.cut_and_read-answer.new.lot c.drop_lot-dropped.new.self c.args.purse.now c.cut_and_read-answer.new.purse c.drop_lot-dropped.new.purse _ c.cut_and_read-answer.ensures c.drop_lot-dropped.ensures.preserves
    (ap held c.requires.fresh) (ap held c.drop_lot-dropped.ensures.empty)

pub returns-in-Err : goal.returns-in-Err
returns-in-Err g c =
    all_home _ _ _ _ c.args.lot c.cut_and_read-answer.new.lot c.drop_lot-dropped.new.self c.args.purse.now c.cut_and_read-answer.new.purse c.drop_lot-dropped.new.purse _ c.cut_and_read-answer.ensures c.drop_lot-dropped.ensures.preserves
    (ap held c.requires.fresh) (ap held c.drop_lot-dropped.ensures.empty)
