use Rattle.std.proofs.Common.{◌≡◌, ◌-◌, ◌≤◌, length, drop}
use Rattle.std.specs.Cmp.Lexicographic.{slice_cmp}
use Rattle.std.specs.Ordering.{nat_cmp}
use Rattle.paged_view.specs.Seen.{seen_in}
use Rattle.worked_records.proofs.samples.BytewiseRecordOrder.compare.Given as goal

abbrev pub invariant-bytes : goal.invariant-bytes
invariant-bytes l = record {
  left : l.at ≤ length (seen_in l.a);
  right : l.at ≤ length (seen_in l.b);
  same : slice_cmp nat_cmp (seen_in l.a) (seen_in l.b) ≡ slice_cmp nat_cmp (drop l.at (seen_in l.a)) (drop l.at (seen_in l.b));
}

abbrev pub decreases-bytes : goal.decreases-bytes
decreases-bytes l = length (seen_in l.a) - l.at
