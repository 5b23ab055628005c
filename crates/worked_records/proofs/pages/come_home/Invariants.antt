use Rattle.std.proofs.Common.{◌≡◌, ℕ, ◌+◌, length}
use Rattle.segment_core.specs.Segments.{segment_sum}
use Rattle.worked_records.proofs.pages.come_home.Given as goal

abbrev pub invariant-spent : goal.invariant-spent
invariant-spent g l = record {
  stays : l.writer.room ≡ l.fn.writer.room;
  segments : (h : ℕ → ℕ → ℕ) → segment_sum h l.writer.pages + segment_sum h l.reader.pages ≡ segment_sum h l.fn.writer.pages + segment_sum h l.fn.reader.pages;
  count : length l.writer.pages + length l.reader.pages ≡ length l.fn.writer.pages + length l.fn.reader.pages;
}

abbrev pub decreases-spent : goal.decreases-spent
decreases-spent g l = length l.reader.pages
