use Rattle.std.proofs.Common.{◌≡◌, ℕ, None, vec_len, slice_index_or}
use Rattle.flow_outside.specs.Slots.{living_in}
use Rattle.outside_host.proofs.slots.no_readers.Given as goal

abbrev pub invariant-loop-number : goal.invariant-loop-number
invariant-loop-number g l = record {
  len : vec_len l.slots ≡ l.number;
  none : (id : ℕ) → slice_index_or l.slots.items id None ≡ None;
  living : living_in l.slots.items ≡ 0;
}
