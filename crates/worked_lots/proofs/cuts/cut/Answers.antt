use Rattle.std.proofs.Common.{arith}
use Rattle.worked_lots.proofs.WorkedLemmas.{count_same, untold_on, writes_join, writes_nothing}
use Rattle.worked_lots.proofs.cuts.cut.Goals as goal

pub cuts-init : goal.cuts-init
cuts-init g c = record {
  within = omega arith;
  writes = writes_nothing _ c.args.lot.now c.args.purse.now;
}

pub add_page-requires-clause-untold : goal.add_page-requires-clause-untold
add_page-requires-clause-untold g c = untold_on _ _ _ c.requires.untold c.cuts.invariant.writes.told

pub add_page-requires-clause-room : goal.add_page-requires-clause-room
add_page-requires-clause-room g c =
    omega (arith, count_same _ _ c.args.lot.now c.cuts.lot c.args.purse.now c.cuts.purse _ c.cuts.invariant.writes, c.cuts.invariant.writes.purse_room, c.requires.room)

pub returns-in-Err : goal.returns-in-Err
returns-in-Err g c =
    writes_join _ _ _ c.args.lot.now c.cuts.lot c.add_page.new.lot c.args.purse.now c.cuts.purse c.add_page.new.purse c.cuts.invariant.writes c.add_page.ensures
