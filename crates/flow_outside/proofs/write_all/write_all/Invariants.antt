use Rattle.std.proofs.Common.{length, ◌-◌, ◌≤◌, take}
use Rattle.flow_outside.specs.Told.{Appends}
use Rattle.flow_outside.proofs.write_all.write_all.Given as goal

abbrev pub invariant-loop-at : goal.invariant-loop-at
invariant-loop-at g l = record {
  within : l.at ≤ length l.bytes;
  later : g.K.Sink.fault_count l.fn.sink ≤ g.K.Sink.fault_count l.sink;
  taken : Appends (g.K.Sink.told l.fn.sink) (g.K.Sink.told l.sink) (take l.at l.bytes);
}

abbrev pub decreases-loop-at : goal.decreases-loop-at
decreases-loop-at g l = length l.bytes - l.at
