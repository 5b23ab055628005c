use Rattle.std.proofs.Common.{◌≡◌, ℕ, ◌≤◌, List}
use Rattle.segment_core.specs.Segments.{PurseView}
use Rattle.page_feed.specs.Feeds.{most_left}
use Rattle.paged_view.specs.Streams.{KnowsRows}
use Rattle.lot_store.specs.LotCalls.{Reads}
use Rattle.lot_store.specs.Lots.{IsLeft, IsRewound}
use Rattle.worker_storage.proofs.CountLemmas.{IsCounted}
use Rattle.worker_storage.proofs.counting.count_left.Given as goal

abbrev pub invariant-rows : goal.invariant-rows
invariant-rows g l = record {
  ready : IsRewound l.lot;
  tells : g.D.Spill.told l.disk ≡ g.D.Spill.told l.fn.disk;
  later : g.D.Spill.fault_count l.fn.disk ≤ g.D.Spill.fault_count l.disk;
  known : KnowsRows (g.D.Spill.told l.disk) (IsLeft l.lot (g.D.Spill.told l.disk));
  reads : (purse : PurseView) → Reads (g.D.Spill.told l.fn.disk) (g.D.Spill.told l.disk) purse purse l.fn.lot l.lot;
  counted : (rows : List (List ℕ)) → IsLeft l.fn.lot (g.D.Spill.told l.fn.disk) rows → IsCounted l.count rows (IsLeft l.lot (g.D.Spill.told l.disk));
}

abbrev pub decreases-rows : goal.decreases-rows
decreases-rows g l = most_left l.lot.feed
