use Rattle.std.proofs.Common.{◌≡◌, ◌≤◌, length}
use Rattle.flow_outside.specs.Blocks.{BothTold}
use Rattle.spool.specs.Changes.{IsBeingFreed}
use Rattle.paged_view.specs.Pages.{IsSameSegment}
use Rattle.spool.specs.Reading.{HasComeTo, number_at}
use Rattle.spool.proofs.discard.discard.Given as goal

abbrev pub invariant-pages : goal.invariant-pages
invariant-pages g l = record {
  freeing : BothTold (g.D.Spill.told l.fn.disk) (g.D.Spill.told l.disk)
      (IsBeingFreed l.fn.run (length l.fn.page.bytes) (number_at l.reader) l.reader.at l.reader.left);
  later : g.D.Spill.fault_count l.fn.disk ≤ g.D.Spill.fault_count l.disk;
  given : g.D.Spill.given l.disk ≡ g.D.Spill.given l.fn.disk;
  same : IsSameSegment l.fn.page l.page;
  come : HasComeTo l.fn.run l.reader;
}

abbrev pub decreases-pages : goal.decreases-pages
decreases-pages g l = l.reader.left
