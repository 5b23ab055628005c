use Rattle.std.proofs.Common.{◌≡◌, ◌+◌, ◌-◌, ◌≤◌, ◌++◌, length, take}
use Rattle.paged_view.specs.Pages.{used, used_bytes, IsSameSegment}
use Rattle.paged_view.proofs.fill.add_span.Given as goal

abbrev pub invariant-pieces : goal.invariant-pieces
invariant-pieces g l = record {
  bytes : used_bytes l.page ≡ used_bytes l.fn.page ++ take l.at (g.X.Span.seen l.row);
  used_now : used l.page ≡ used l.fn.page + l.at;
  same : IsSameSegment l.fn.page l.page;
  within : l.at ≤ length (g.X.Span.seen l.row);
}

abbrev pub decreases-pieces : goal.decreases-pieces
decreases-pieces g l = length (g.X.Span.seen l.row) - l.at
