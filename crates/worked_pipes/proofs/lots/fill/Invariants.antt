use Rattle.std.proofs.Common.{◌-◌, ◌≤◌}
use Rattle.lot_store.specs.LotCalls.{IsSupplied, Writes}
use Rattle.worked_pipes.proofs.lots.fill.Given as goal

abbrev pub invariant-rows : goal.invariant-rows
invariant-rows g l = record {
  within : l.number ≤ l.count;
  supply : IsSupplied l.purse l.lot;
  writes : Writes (g.D.Spill.told l.fn.disk) (g.D.Spill.told l.disk) l.fn.purse l.purse l.fn.lot l.lot;
}

abbrev pub decreases-rows : goal.decreases-rows
decreases-rows g l = l.count - l.number
