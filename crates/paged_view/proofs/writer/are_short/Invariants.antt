use Rattle.std.proofs.Common.{◌≡◌, ◌+◌, length, take, drop}
use Rattle.paged_view.specs.Pages.{bodies}
use Rattle.paged_view.proofs.writer.are_short.Given as goal

abbrev pub invariant-loop-page : goal.invariant-loop-page
invariant-loop-page l = record {
  passed : l.left + length (bodies (take l.page-index l.page-items)) ≡ l.need + l.fill;
  rest : l.page-items ≡ drop l.full l.pages.items;
}
