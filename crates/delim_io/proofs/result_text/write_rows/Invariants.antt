use Rattle.std.proofs.Common.{length, ◌-◌, ◌≤◌, take}
use Rattle.flow_outside.specs.Told.{Appends}
use Rattle.delim_io.specs.ResultText.{lines_of}
use Rattle.delim_io.proofs.result_text.write_rows.Given as goal

abbrev pub invariant-loop-at : goal.invariant-loop-at
invariant-loop-at g l = record {
  within : l.at ≤ length l.rows;
  later : g.K.Sink.fault_count l.fn.sink ≤ g.K.Sink.fault_count l.sink;
  written : Appends (g.K.Sink.told l.fn.sink) (g.K.Sink.told l.sink) (lines_of (take l.at l.rows));
}

abbrev pub decreases-loop-at : goal.decreases-loop-at
decreases-loop-at g l = length l.rows - l.at
