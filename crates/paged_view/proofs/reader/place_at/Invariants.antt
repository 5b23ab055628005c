use Rattle.std.proofs.Common.{◌≡◌, ◌≤◌, ◌-◌, length, vec_len, drop}
use Rattle.paged_view.specs.Pages.{all_used_bytes}
use Rattle.paged_view.specs.Reading.{unread}
use Rattle.paged_view.proofs.reader.place_at.Given as goal

abbrev pub invariant-loop-page : goal.invariant-loop-page
invariant-loop-page l = record {
  same : unread l.pages.items l.page l.off ≡ unread l.fn.pages.items l.fn.page l.fn.at;
  among : l.page ≤ vec_len l.pages;
  within : l.off ≤ length (all_used_bytes (drop l.page l.pages.items));
  later : l.fn.page ≤ l.page;
}

abbrev pub decreases-loop-page : goal.decreases-loop-page
decreases-loop-page l = vec_len l.pages - l.page
