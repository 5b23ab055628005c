use Rattle.std.proofs.Common.{◌≡◌, ℕ, ◌+◌, length, vec_len, vec_capacity}
use Rattle.segment_core.specs.Segments.{segment_sum}
use Rattle.lot_store.proofs.stored.give.Given as goal

abbrev pub invariant-pages : goal.invariant-pages
invariant-pages l = record {
  capacity : vec_capacity l.pages ≡ vec_capacity l.fn.pages;
  room : l.purse.room ≡ l.fn.purse.room;
  segments : (h : ℕ → ℕ → ℕ) → segment_sum h l.purse.pages + segment_sum h l.pages.items ≡ segment_sum h l.fn.purse.pages + segment_sum h l.fn.pages.items;
  count : length l.purse.pages + length l.pages.items ≡ length l.fn.purse.pages + length l.fn.pages.items;
}

abbrev pub decreases-pages : goal.decreases-pages
decreases-pages l = vec_len l.pages
