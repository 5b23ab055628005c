use Rattle.std.proofs.Common.{◌≡◌, ℕ, ◌+◌, length, vec_len, vec_capacity}
use Rattle.segment_core.specs.Segments.{segment_sum}
use Rattle.page_feed.proofs.lists.lend.Given as goal

abbrev pub invariant-loop : goal.invariant-loop
invariant-loop l = record {
  len : vec_len l.to ≡ vec_len l.initial.to + l.counter;
  supply : length l.purse.pages + l.counter ≡ length l.initial.purse.pages;
  capacity : vec_capacity l.to ≡ vec_capacity l.initial.to;
  room : l.purse.room ≡ l.initial.purse.room;
  segments : (h : ℕ → ℕ → ℕ) → segment_sum h l.purse.pages + segment_sum h l.to.items ≡ segment_sum h l.initial.purse.pages + segment_sum h l.initial.to.items;
}
