use Rattle.std.proofs.Common.{◌≡◌, ℕ, ◌+◌, length}
use Rattle.segment_core.specs.Segments.{segment_sum}
use Rattle.worked_records.proofs.pages.carry.Given as goal

abbrev pub invariant-loop-row : goal.invariant-loop-row
invariant-loop-row g l = record {
  writer_stays : l.writer.room ≡ l.fn.writer.room;
  reader_stays : l.reader.room ≡ l.fn.reader.room;
  segments : (h : ℕ → ℕ → ℕ) → segment_sum h l.writer.pages + segment_sum h l.reader.pages ≡ segment_sum h l.fn.writer.pages + segment_sum h l.fn.reader.pages;
  count : length l.writer.pages + length l.reader.pages ≡ length l.fn.writer.pages + length l.fn.reader.pages;
}
