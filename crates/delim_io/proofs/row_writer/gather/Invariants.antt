use Rattle.std.proofs.Common.{◌≡◌, ◌-◌, ◌≤◌, take, drop}
use Rattle.delim_io.proofs.row_writer.gather.Given as goal

abbrev pub invariant-loop-at : goal.invariant-loop-at
invariant-loop-at g l = record {
  began : l.start ≤ l.at;
  order : l.at ≤ l.end;
  same : l.text.items ≡ take (l.at - l.start) (drop l.start (g.X.Span.seen l.row));
}

abbrev pub decreases-loop-at : goal.decreases-loop-at
decreases-loop-at g l = l.end - l.at
