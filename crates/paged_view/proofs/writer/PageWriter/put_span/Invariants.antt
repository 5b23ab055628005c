use Rattle.std.proofs.Common.{◌≡◌, ℕ, ◌≤◌, ◌-◌, ◌++◌, length, take}
use Rattle.segment_core.specs.Segments.{segment_sum}
use Rattle.paged_view.specs.Pages.{bodies}
use Rattle.paged_view.proofs.writer.PageWriter.put_span.Given as goal

abbrev pub invariant-pieces : goal.invariant-pieces
invariant-pieces g l = record {
  within : l.at ≤ l.len;
  text : l.self.text ≡ l.fn.self.text ++ take l.at (g.X.Span.seen l.row);
  room : l.self.room ≡ l.fn.self.room;
  size : length (bodies l.self.pages) ≡ length (bodies l.fn.self.pages);
  segments : (h : ℕ → ℕ → ℕ) → segment_sum h l.self.pages ≡ segment_sum h l.fn.self.pages;
}

abbrev pub decreases-pieces : goal.decreases-pieces
decreases-pieces g l = l.len - l.at
