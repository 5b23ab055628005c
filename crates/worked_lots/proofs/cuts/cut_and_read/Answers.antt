use Rattle.std.proofs.Common.{arith}
use Rattle.worked_lots.proofs.WorkedLemmas.{count_same, enough_on, untold_on, writes_join}
use Rattle.worked_lots.proofs.cuts.cut_and_read.Goals as goal

pub rest_and_read-requires-clause-untold : goal.rest_and_read-requires-clause-untold
rest_and_read-requires-clause-untold g c = untold_on _ _ _ c.requires.untold c.cut.ensures.told

pub rest_and_read-requires-clause-room : goal.rest_and_read-requires-clause-room
rest_and_read-requires-clause-room g c =
    omega (arith, count_same _ _ c.args.lot.now c.cut.new.lot c.args.purse.now c.cut.new.purse _ c.cut.ensures, c.cut.ensures.purse_room, c.requires.room)

pub rest_and_read-requires-clause-enough : goal.rest_and_read-requires-clause-enough
rest_and_read-requires-clause-enough g c =
    enough_on _ _ c.args.lot.now c.cut.new.lot c.args.purse.now c.cut.new.purse c.cut.ensures c.requires.enough

pub returns-in-Ok : goal.returns-in-Ok
returns-in-Ok g c =
    writes_join _ _ _ c.args.lot.now c.cut.new.lot c.rest_and_read.new.lot c.args.purse.now c.cut.new.purse c.rest_and_read.new.purse c.cut.ensures c.rest_and_read.ensures
