use Rattle.std.proofs.Common.{◌-◌, ◌<◌, ◌≤◌, ℕ, List, take, All}
use Rattle.span_bytes.proofs.span.read_pieces.Given as goal

-- the bytes before a place were read
pub record ReadBefore (seen : List ℕ) (len at : ℕ) : Type 0 where
  pub within : at ≤ len
  pub bytes : All (λ b. b < 256) (take at seen)

abbrev pub invariant-loop-at : goal.invariant-loop-at
invariant-loop-at g l = ReadBefore (g.X.Span.seen l.row) l.len l.at

abbrev pub decreases-loop-at : goal.decreases-loop-at
decreases-loop-at g l = l.len - l.at
