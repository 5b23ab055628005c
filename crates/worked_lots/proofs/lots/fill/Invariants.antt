use Rattle.std.proofs.Common.{◌-◌, ◌≤◌}
use Rattle.lot_store.specs.LotCalls.{Writes}
use Rattle.worked_lots.specs.Worked.{CanAdd}
use Rattle.worked_lots.proofs.lots.fill.Given as goal

abbrev pub invariant-rows : goal.invariant-rows
invariant-rows g l = record {
  within : l.number ≤ l.count;
  can : CanAdd (g.D.Spill.told l.disk) l.lot l.purse;
  writes : Writes (g.D.Spill.told l.fn.disk) (g.D.Spill.told l.disk) l.fn.purse l.purse l.fn.lot l.lot;
}

abbrev pub decreases-rows : goal.decreases-rows
decreases-rows g l = l.count - l.number
