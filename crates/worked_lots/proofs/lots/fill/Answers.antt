use Rattle.std.proofs.Common.{arith}
use Rattle.worked_lots.proofs.WorkedLemmas.{writes_join, writes_nothing}
use Rattle.worked_lots.proofs.lots.fill.Goals as goal

pub rows-init : goal.rows-init
rows-init g c = record {
  within = omega arith;
  can = c.requires.can;
  writes = writes_nothing _ c.args.lot.now c.args.purse.now;
}

pub rows-preserved : goal.rows-preserved
rows-preserved g c = record {
  within = omega (arith, c.rows-test.true);
  can = c.in-Ok.ensures.can;
  writes = writes_join _ _ _ c.args.lot.now c.rows.lot c.add.new.lot c.args.purse.now c.rows.purse c.add.new.purse c.rows.invariant.writes c.add.ensures.writes;
}

pub returns-in-Err-clause-writes : goal.returns-in-Err-clause-writes
returns-in-Err-clause-writes g c =
    writes_join _ _ _ c.args.lot.now c.rows.lot c.add.new.lot c.args.purse.now c.rows.purse c.add.new.purse c.rows.invariant.writes c.add.ensures.writes
