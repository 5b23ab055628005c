use Rattle.std.proofs.Common.{◌≡◌, None}
use Rattle.page_feed.specs.Feeds.{most_left}
use Rattle.worked_lots.specs.Worked.{ReadsOn}
use Rattle.worked_pipes.proofs.lots.read.Given as goal

abbrev pub invariant-records : goal.invariant-records
invariant-records g l = record {
  untold : g.D.Spill.told l.disk ≡ None;
  reads : ReadsOn (g.D.Spill.told l.fn.disk) (g.D.Spill.told l.disk) l.fn.lot l.lot;
}

abbrev pub decreases-records : goal.decreases-records
decreases-records g l = most_left l.lot.feed
