use Rattle.std.proofs.Common.{ap, arith, length, refl}
use Rattle.lot_store.specs.Lots.{held}
use Rattle.worked_lots.proofs.WorkedLemmas.{all_home, can_add_empty, count_same, ready_of, stands_on}
use Rattle.worked_lots.proofs.lots.with_lot.Goals as goal

pub twice-answer-requires-clause-can : goal.twice-answer-requires-clause-can
twice-answer-requires-clause-can g c =
    can_add_empty _ c.args.lot c.args.purse.now c.requires.fresh c.requires.sized c.requires.room (omega (arith, c.requires.enough))

pub drop_lot-dropped-requires-clause-supply : goal.drop_lot-dropped-requires-clause-supply
drop_lot-dropped-requires-clause-supply g c some =
    omega (arith, count_same _ _ c.args.lot c.twice-answer.new.lot c.args.purse.now c.twice-answer.new.purse _ c.twice-answer.ensures, c.requires.enough)

pub drop_lot-dropped-requires-clause-ready : goal.drop_lot-dropped-requires-clause-ready
drop_lot-dropped-requires-clause-ready g c =
    ready_of _ c.twice-answer.new.lot c.twice-answer.new.purse
    (stands_on _ _ c.args.lot c.twice-answer.new.lot c.args.purse.now c.twice-answer.new.purse _ c.twice-answer.ensures (can_add_empty _ c.args.lot c.args.purse.now c.requires.fresh c.requires.sized c.requires.room (omega (arith, c.requires.enough))).stands)

pub returns-in-Ok : goal.returns-in-Ok
returns-in-Ok g c =
    all_home _ _ _ _ c.args.lot c.twice-answer.new.lot c.drop_lot-dropped.new.self c.args.purse.now c.twice-answer.new.purse c.drop_lot-dropped.new.purse _ c.twice-answer.ensures c.drop_lot-dropped.ensures.preserves
    (ap held c.requires.fresh) (ap held c.drop_lot-dropped.ensures.empty)

pub returns-in-Err : goal.returns-in-Err
returns-in-Err g c =
    all_home _ _ _ _ c.args.lot c.twice-answer.new.lot c.drop_lot-dropped.new.self c.args.purse.now c.twice-answer.new.purse c.drop_lot-dropped.new.purse _ c.twice-answer.ensures c.drop_lot-dropped.ensures.preserves
    (ap held c.requires.fresh) (ap held c.drop_lot-dropped.ensures.empty)
