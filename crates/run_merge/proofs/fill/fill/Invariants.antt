use Rattle.std.proofs.Common.{◌≡◌, ℕ, ◌<◌, ◌≤◌, false, All, length, slice_index_or, sum_by}
use Rattle.segment_core.specs.Segments.{segment_sum}
use Rattle.paged_view.specs.Streams.{KnowsRows}
use Rattle.run_merge.specs.Merging.{Merges, Rows, WaitsFitting, most_of, yields}
use Rattle.run_merge.specs.declared.source.Source.{Source}
use Rattle.run_merge.proofs.fill.fill.Given as goal

abbrev pub invariant-loop-at : goal.invariant-loop-at
invariant-loop-at g l = record {
  ready : All {X = Source g.row.R.Denot} (λ s. g.R.RecordStream.IsReady s.stream) l.sources;
  fitting : All (WaitsFitting (g.O.RecordOrder.is_fit l.order) (g.O.RecordOrder.prefix_of l.order) g.R.RecordStream.shown) l.sources;
  known : KnowsRows (g.D.Spill.told l.disk) (Merges (g.O.RecordOrder.cmp l.order) (yields (g.O.RecordOrder.cmp l.order) (g.O.RecordOrder.is_fit l.order) g.R.RecordStream.shown g.R.RecordStream.left (g.D.Spill.told l.disk)) l.sources);
  waits : (i : ℕ) (d : Source g.row.R.Denot) → i < l.at → (slice_index_or l.sources i d).given ≡ false;
  rows : (rows : Rows) → Merges (g.O.RecordOrder.cmp l.order) (yields (g.O.RecordOrder.cmp l.order) (g.O.RecordOrder.is_fit l.order) g.R.RecordStream.shown g.R.RecordStream.left (g.D.Spill.told l.fn.disk)) l.fn.sources rows
      → Merges (g.O.RecordOrder.cmp l.order) (yields (g.O.RecordOrder.cmp l.order) (g.O.RecordOrder.is_fit l.order) g.R.RecordStream.shown g.R.RecordStream.left (g.D.Spill.told l.disk)) l.sources rows;
  later : sum_by (most_of g.R.RecordStream.shown g.R.RecordStream.most_left) l.sources ≤ sum_by (most_of g.R.RecordStream.shown g.R.RecordStream.most_left) l.fn.sources;
  count : length l.sources ≡ length l.fn.sources;
  segments : (h : ℕ → ℕ → ℕ) → sum_by {X = Source g.row.R.Denot} (λ s. segment_sum h (g.R.RecordStream.held s.stream)) l.sources ≡ sum_by {X = Source g.row.R.Denot} (λ s. segment_sum h (g.R.RecordStream.held s.stream)) l.fn.sources;
  tells : g.D.Spill.told l.disk ≡ g.D.Spill.told l.fn.disk;
  counted : g.D.Spill.given l.disk ≡ g.D.Spill.given l.fn.disk;
  faults : g.D.Spill.fault_count l.fn.disk ≤ g.D.Spill.fault_count l.disk;
}
