use Rattle.std.proofs.Common.{◌≡◌, ℕ, ◌-◌, ◌≤◌, List, take, drop, fold}
use Rattle.flow_types.specs.Hash.{hash_more}
use Rattle.key_hash.proofs.fields.hash_span.Given as goal

-- the bytes up to a place were hashed
pub record Hashed (seen : List ℕ) (hash so_far start at end : ℕ) : Type 0 where
  pub began : start ≤ at
  pub order : at ≤ end
  pub same : so_far ≡ fold hash_more hash (take (at - start) (drop start seen))

abbrev pub invariant-loop-at : goal.invariant-loop-at
invariant-loop-at g l = Hashed (g.X.Span.seen l.row) l.hash l.so_far l.start l.at l.end

abbrev pub decreases-loop-at : goal.decreases-loop-at
decreases-loop-at g l = l.end - l.at
