use Rattle.std.proofs.Common.{◌≡◌, ◌+◌, length, take, drop}
use Rattle.paged_view.specs.Pages.{all_used_bytes}
use Rattle.paged_view.proofs.reader.reaches.Given as goal

abbrev pub invariant-loop-page : goal.invariant-loop-page
invariant-loop-page l = record {
  passed : l.left + length (all_used_bytes (take l.page-index l.page-items)) ≡ l.fn.place.off + l.need;
  rest : l.page-items ≡ drop l.fn.place.page l.pages.items;
}
