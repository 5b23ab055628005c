use Rattle.std.proofs.Common.{◌≡◌, ◌-◌, ◌≤◌, length, drop}
use Rattle.flow_types.specs.Tuples.{tuple_cmp}
use Rattle.flow_types.proofs.row.compare_tuples.Given as goal

abbrev pub invariant-loop-i : goal.invariant-loop-i
invariant-loop-i l = record {
  left : l.i ≤ length l.a;
  right : l.i ≤ length l.b;
  same : tuple_cmp l.a l.b ≡ tuple_cmp (drop l.i l.a) (drop l.i l.b);
}

abbrev pub decreases-loop-i : goal.decreases-loop-i
decreases-loop-i l = length l.a - l.i
