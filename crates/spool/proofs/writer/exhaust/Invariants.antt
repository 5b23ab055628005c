use Rattle.std.proofs.Common.{◌-◌, ◌^◌, ◌≤◌}
use Rattle.flow_outside.specs.Blocks.{BothTold}
use Rattle.spool.specs.Changes.{AllStand}
use Rattle.spool.proofs.writer.exhaust.Given as goal

abbrev pub invariant-asks : goal.invariant-asks
invariant-asks g l = record {
  later : g.D.Spill.fault_count l.fn.disk ≤ g.D.Spill.fault_count l.disk;
  stand : BothTold (g.D.Spill.told l.fn.disk) (g.D.Spill.told l.disk) AllStand;
}

abbrev pub decreases-asks : goal.decreases-asks
decreases-asks g l = 2 ^ 44 - g.D.Spill.given l.disk
