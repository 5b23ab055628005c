use Rattle.std.proofs.Common.{arith}
use Rattle.worked_lots.proofs.WorkedLemmas.{count_same, untold_on, writes_join, writes_nothing}
use Rattle.worked_pipes.proofs.lots.fill.Goals as goal

pub rows-init : goal.rows-init
rows-init g c = record {
  within = omega arith;
  supply = c.requires.supply;
  writes = writes_nothing _ c.args.lot.now c.args.purse.now;
}

pub add-requires-clause-untold : goal.add-requires-clause-untold
add-requires-clause-untold g c = untold_on _ _ _ c.requires.untold c.rows.invariant.writes.told

pub add-requires-clause-room : goal.add-requires-clause-room
add-requires-clause-room g c =
    omega (arith, count_same _ _ c.args.lot.now c.rows.lot c.args.purse.now c.rows.purse _ c.rows.invariant.writes, c.rows.invariant.writes.purse_room, c.requires.room)

pub rows-preserved : goal.rows-preserved
rows-preserved g c = record {
  within = omega (arith, c.rows-test.true);
  supply = c.in-Ok.ensures.supply;
  writes = writes_join _ _ _ c.args.lot.now c.rows.lot c.add.new.lot c.args.purse.now c.rows.purse c.add.new.purse c.rows.invariant.writes c.add.ensures.writes;
}

pub returns-in-Err : goal.returns-in-Err
returns-in-Err g c =
    writes_join _ _ _ c.args.lot.now c.rows.lot c.add.new.lot c.args.purse.now c.rows.purse c.add.new.purse c.rows.invariant.writes c.add.ensures.writes
