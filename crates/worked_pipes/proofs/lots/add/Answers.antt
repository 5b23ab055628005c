use Rattle.worked_lots.proofs.WorkedLemmas.{ready_untold}
use Rattle.worked_pipes.proofs.lots.add.Goals as goal

pub append-requires-clause-ready : goal.append-requires-clause-ready
append-requires-clause-ready g c =
    ready_untold _ c.args.lot.now c.args.purse.now c.requires.untold c.requires.room
