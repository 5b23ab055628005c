use Rattle.std.proofs.Common.{◌≡◌, ℕ}
use Rattle.segment_core.specs.Segments.{segment_sum}
use Rattle.paged_view.specs.Streams.{KnowsRows}
use Rattle.worked_records.proofs.samples.run_out.Given as goal

abbrev pub invariant-records : goal.invariant-records
invariant-records g l = record {
  ready : g.R.RecordStream.IsReady l.stream;
  known : KnowsRows (g.D.Spill.told l.disk) (g.R.RecordStream.left l.stream (g.D.Spill.told l.disk));
  segments : (h : ℕ → ℕ → ℕ) → segment_sum h (g.R.RecordStream.held l.stream) ≡ segment_sum h (g.R.RecordStream.held l.fn.stream);
  tells : g.D.Spill.told l.disk ≡ g.D.Spill.told l.fn.disk;
}

abbrev pub decreases-records : goal.decreases-records
decreases-records g l = g.R.RecordStream.most_left l.stream
