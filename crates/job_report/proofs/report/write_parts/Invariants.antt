use Rattle.std.proofs.Common.{◌≤◌, take}
use Rattle.flow_outside.specs.Told.{Appends}
use Rattle.job_report.proofs.PartLemmas.{joined}
use Rattle.job_report.proofs.report.write_parts.Given as goal

abbrev pub invariant-loop-part : goal.invariant-loop-part
invariant-loop-part g l = record {
  later : g.E.Sink.fault_count l.fn.err ≤ g.E.Sink.fault_count l.err;
  taken : Appends (g.E.Sink.told l.fn.err) (g.E.Sink.told l.err) (joined (take l.part-index l.parts));
}
