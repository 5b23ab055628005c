use Rattle.std.proofs.Common.{◌-◌, ◌≤◌, length}
use Rattle.lot_store.specs.LotCalls.{Writes}
use Rattle.worked_lots.proofs.cuts.cut.Given as goal

abbrev pub invariant-cuts : goal.invariant-cuts
invariant-cuts g l = record {
  within : l.at ≤ length l.fn.stream;
  writes : Writes (g.D.Spill.told l.fn.disk) (g.D.Spill.told l.disk) l.fn.purse l.purse l.fn.lot l.lot;
}

abbrev pub decreases-cuts : goal.decreases-cuts
decreases-cuts g l = length l.fn.stream - l.at
