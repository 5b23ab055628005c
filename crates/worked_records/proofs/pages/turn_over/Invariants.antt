use Rattle.std.proofs.Common.{◌≡◌, ℕ, ◌+◌, length}
use Rattle.segment_core.specs.Segments.{segment_sum}
use Rattle.worked_records.proofs.pages.turn_over.Given as goal

abbrev pub invariant-spent : goal.invariant-spent
invariant-spent l = record {
  writer_stays : l.writer.room ≡ l.fn.writer.room;
  reader_stays : l.reader.room ≡ l.fn.reader.room;
  segments : (h : ℕ → ℕ → ℕ) → segment_sum h l.writer.pages + segment_sum h l.reader.pages ≡ segment_sum h l.fn.writer.pages + segment_sum h l.fn.reader.pages;
  count : length l.writer.pages + length l.reader.pages ≡ length l.fn.writer.pages + length l.fn.reader.pages;
}

abbrev pub decreases-spent : goal.decreases-spent
decreases-spent l = length l.reader.pages

abbrev pub invariant-full : goal.invariant-full
invariant-full l = record {
  writer_stays : l.writer.room ≡ l.fn.writer.room;
  reader_stays : l.reader.room ≡ l.fn.reader.room;
  segments : (h : ℕ → ℕ → ℕ) → segment_sum h l.writer.pages + segment_sum h l.reader.pages ≡ segment_sum h l.fn.writer.pages + segment_sum h l.fn.reader.pages;
  count : length l.writer.pages + length l.reader.pages ≡ length l.fn.writer.pages + length l.fn.reader.pages;
}

abbrev pub decreases-full : goal.decreases-full
decreases-full l = length l.writer.pages
