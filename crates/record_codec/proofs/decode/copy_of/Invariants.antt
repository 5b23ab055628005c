use Rattle.std.proofs.Common.{◌≡◌, ℕ, ◌-◌, ◌≤◌, List, take, drop}
use Rattle.record_codec.proofs.decode.copy_of.Given as goal

-- the bytes up to a place were copied
pub record Copied (seen bytes : List ℕ) (start at end : ℕ) : Type 0 where
  pub began : start ≤ at
  pub order : at ≤ end
  pub same : bytes ≡ take (at - start) (drop start seen)

abbrev pub invariant-loop-at : goal.invariant-loop-at
invariant-loop-at g l = Copied (g.X.Span.seen l.row) l.bytes.items l.start l.at l.end

abbrev pub decreases-loop-at : goal.decreases-loop-at
decreases-loop-at g l = l.end - l.at
