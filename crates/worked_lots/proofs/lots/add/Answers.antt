use Rattle.worked_lots.proofs.WorkedLemmas.{can_add_on, ready_of}
use Rattle.worked_lots.proofs.lots.add.Goals as goal

pub append-requires-clause-ready : goal.append-requires-clause-ready
append-requires-clause-ready g c =
    ready_of _ c.args.lot.now c.args.purse.now c.requires.can.stands

pub returns-clause-can : goal.returns-clause-can
returns-clause-can g c =
    can_add_on c.append.result _ _ c.args.lot.now c.append.new.self c.args.purse.now c.append.new.purse c.args.row.now c.requires.short c.requires.can c.append.ensures.preserves c.append.ensures.added c.append.ensures.supply
