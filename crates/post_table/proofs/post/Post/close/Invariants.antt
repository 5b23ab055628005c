use Rattle.std.proofs.Common.{◌≡◌, ℕ, ◌<◌, false, get_or, take, vec_len, vec_capacity}
use Rattle.std.specs.Mem.Slots.{slots_filled, slots_items, slots_len}
use Rattle.std.specs.Mem.Slots.Ownership.{Filled}
use Rattle.post_table.proofs.post.Post.close.Given as goal

abbrev pub invariant-slots : goal.invariant-slots
invariant-slots l = record {
  filled : Filled (slots_filled l.closed.slots) l.slot (slots_len l.closed.slots);
  taken : (k : ℕ) → k < l.slot → get_or (slots_filled l.closed.slots) k false ≡ false;
  same : slots_items l.closed.slots ≡ slots_items l.initial.closed.slots;
  len : slots_len l.closed.slots ≡ slots_len l.initial.closed.slots;
  home : l.home.items ≡ take l.slot (slots_items l.initial.closed.slots);
  home_len : vec_len l.home ≡ l.slot;
  capacity : vec_capacity l.home ≡ vec_capacity l.initial.home;
}
