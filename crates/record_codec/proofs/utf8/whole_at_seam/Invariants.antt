use Rattle.std.proofs.Common.{◌≡◌, ℕ, List, length, take, drop}
use Rattle.record_codec.proofs.utf8.whole_at_seam.Given as goal

-- the first i of four bytes were put together
pub record PutTogether (front : List ℕ) (i : ℕ) (rest : List ℕ) : Type 0 where
  pub long : length front ≡ 4
  pub same : take i front ≡ take i rest

abbrev pub invariant-loop-i : goal.invariant-loop-i
invariant-loop-i g l = PutTogether l.front l.i (drop l.at (g.X.Span.seen l.row))
