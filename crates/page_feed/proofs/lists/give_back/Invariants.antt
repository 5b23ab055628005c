use Rattle.std.proofs.Common.{◌≡◌, ℕ, ◌+◌, length, vec_len, vec_capacity}
use Rattle.segment_core.specs.Segments.{segment_sum}
use Rattle.page_feed.proofs.lists.give_back.Given as goal

abbrev pub invariant-segments : goal.invariant-segments
invariant-segments l = record {
  capacity : vec_capacity l.from ≡ vec_capacity l.fn.from;
  room : l.purse.room ≡ l.fn.purse.room;
  segments : (h : ℕ → ℕ → ℕ) → segment_sum h l.purse.pages + segment_sum h l.from.items ≡ segment_sum h l.fn.purse.pages + segment_sum h l.fn.from.items;
  count : length l.purse.pages + vec_len l.from ≡ length l.fn.purse.pages + vec_len l.fn.from;
}

abbrev pub decreases-segments : goal.decreases-segments
decreases-segments l = vec_len l.from
