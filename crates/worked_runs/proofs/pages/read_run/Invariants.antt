use Rattle.std.proofs.Common.{◌≡◌, length}
use Rattle.flow_outside.specs.Told.{IfTold}
use Rattle.paged_view.specs.Pages.{IsSameSegment}
use Rattle.spool.specs.Reading.{IsReadable}
use Rattle.worked_runs.proofs.pages.read_run.Given as goal

abbrev pub invariant-pages : goal.invariant-pages
invariant-pages g l = record {
  readable : IfTold (g.D.Spill.told l.disk) (λ blocks. IsReadable blocks (length l.page.bytes) l.reader);
  tells : g.D.Spill.told l.disk ≡ g.D.Spill.told l.fn.disk;
  same : IsSameSegment l.fn.page l.page;
}

abbrev pub decreases-pages : goal.decreases-pages
decreases-pages g l = l.reader.left
