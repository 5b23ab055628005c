use Rattle.std.proofs.Common.{◌≡◌, ◌≤◌}
use Rattle.flow_model.specs.Env.{Tuples}
use Rattle.lot_store.specs.LotCalls.{Reads}
use Rattle.lot_store.specs.Lots.{IsRewound}
use Rattle.page_feed.specs.Feeds.{most_left}
use Rattle.segment_core.specs.Segments.{PurseView}
use Rattle.superstep.specs.Emitting.{Collects, IsLeftOf}
use Rattle.superstep.proofs.emitting.read_rows.Given as goal

abbrev pub invariant-records : goal.invariant-records
invariant-records g l = record {
  ready : IsRewound l.place;
  tells : g.D.Spill.told l.disk ≡ g.D.Spill.told l.fn.disk;
  later : g.D.Spill.fault_count l.fn.disk ≤ g.D.Spill.fault_count l.disk;
  reads : (purse : PurseView) → Reads (g.D.Spill.told l.fn.disk) (g.D.Spill.told l.disk) purse purse l.fn.place l.place;
  collected : (tuples : Tuples) → IsLeftOf l.schema l.fn.place (g.D.Spill.told l.fn.disk) tuples → Collects l.schema l.place (g.D.Spill.told l.disk) l.rows.items tuples;
}

abbrev pub decreases-records : goal.decreases-records
decreases-records g l = most_left l.place.feed
