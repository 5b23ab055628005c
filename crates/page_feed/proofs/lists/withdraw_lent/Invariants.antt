use Rattle.std.proofs.Common.{◌≡◌, ℕ, ◌+◌, length, take, drop}
use Rattle.segment_core.specs.Segments.{segment_sum}
use Rattle.page_feed.proofs.lists.withdraw_lent.Given as goal

abbrev pub invariant-loop : goal.invariant-loop
invariant-loop l = record {
  pages : l.reader.pages ≡ drop l.counter l.initial.reader.pages;
  room : l.reader.room ≡ l.initial.reader.room;
  purse_room : l.purse.room ≡ l.initial.purse.room;
  count : length l.purse.pages ≡ length l.initial.purse.pages + l.counter;
  segments : (h : ℕ → ℕ → ℕ) → segment_sum h l.purse.pages ≡ segment_sum h l.initial.purse.pages + segment_sum h (take l.counter l.initial.reader.pages);
}
