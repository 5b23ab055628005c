use Rattle.paged_view.specs.Streams.{KnowsRows}
use Rattle.page_feed.specs.Feeds.{most_left}
use Rattle.lot_store.specs.Lots.{IsLeft}
use Rattle.worked_lots.specs.Worked.{ReadsOn}
use Rattle.worked_lots.proofs.lots.read.Given as goal

abbrev pub invariant-records : goal.invariant-records
invariant-records g l = record {
  known : KnowsRows (g.D.Spill.told l.disk) (IsLeft l.lot (g.D.Spill.told l.disk));
  reads : ReadsOn (g.D.Spill.told l.fn.disk) (g.D.Spill.told l.disk) l.fn.lot l.lot;
}

abbrev pub decreases-records : goal.decreases-records
decreases-records g l = most_left l.lot.feed
