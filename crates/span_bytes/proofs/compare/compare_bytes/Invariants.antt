use Rattle.std.proofs.Common.{◌-◌, ◌≡◌, ℕ, List, ◌≤◌, length, drop}
use Rattle.std.specs.Cmp.Lexicographic.{slice_cmp}
use Rattle.std.specs.Ordering.{nat_cmp}
use Rattle.span_bytes.proofs.compare.compare_bytes.Given as goal

abbrev pub invariant-pieces : goal.invariant-pieces
invariant-pieces g l =
    let x : List ℕ = g.A.Span.seen l.a in
    let y : List ℕ = g.B.Span.seen l.b in record {
      left : l.at ≤ length x;
      right : l.at ≤ length y;
      same : slice_cmp nat_cmp x y ≡ slice_cmp nat_cmp (drop l.at x) (drop l.at y);
    }

abbrev pub decreases-pieces : goal.decreases-pieces
decreases-pieces g l = l.a_len - l.at
