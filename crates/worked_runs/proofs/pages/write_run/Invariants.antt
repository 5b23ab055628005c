use Rattle.std.proofs.Common.{length}
use Rattle.flow_outside.specs.Told.{IfTold}
use Rattle.paged_view.specs.Pages.{IsSameSegment}
use Rattle.spool.specs.Runs.{IsWritten}
use Rattle.worked_runs.proofs.pages.write_run.Given as goal

abbrev pub invariant-loop-number : goal.invariant-loop-number
invariant-loop-number g l = record {
  written : IfTold (g.D.Spill.told l.disk) (λ blocks. IsWritten blocks (length l.fn.page.bytes) l.writer);
  same : IsSameSegment l.fn.page l.page;
}
