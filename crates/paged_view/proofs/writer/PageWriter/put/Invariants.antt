use Rattle.std.proofs.Common.{◌≡◌, ℕ, ◌≤◌, ◌-◌, ◌++◌, length, take}
use Rattle.segment_core.specs.Segments.{segment_sum}
use Rattle.paged_view.specs.Pages.{bodies}
use Rattle.paged_view.proofs.writer.PageWriter.put.Given as goal

abbrev pub invariant-pieces : goal.invariant-pieces
invariant-pieces l = record {
  within : l.at ≤ length l.bytes;
  text : l.self.text ≡ l.fn.self.text ++ take l.at l.bytes;
  room : l.self.room ≡ l.fn.self.room;
  size : length (bodies l.self.pages) ≡ length (bodies l.fn.self.pages);
  segments : (h : ℕ → ℕ → ℕ) → segment_sum h l.self.pages ≡ segment_sum h l.fn.self.pages;
}

abbrev pub decreases-pieces : goal.decreases-pieces
decreases-pieces l = length l.bytes - l.at
