use Rattle.std.proofs.Common.{ℕ, ◌-◌, ◌≤◌, ◌↔◌, List, take, drop, IsUtf8}
use Rattle.record_codec.proofs.utf8.is_utf8.Given as goal

pub record Passed (seen : List ℕ) (start at end : ℕ) : Type 0 where
  pub order : at ≤ end
  pub rest : IsUtf8 (take (end - start) (drop start seen)) ↔ IsUtf8 (take (end - at) (drop at seen))

abbrev pub invariant-loop-at : goal.invariant-loop-at
invariant-loop-at g l = Passed (g.X.Span.seen l.row) l.start l.at l.end

abbrev pub decreases-loop-at : goal.decreases-loop-at
decreases-loop-at g l = l.end - l.at
