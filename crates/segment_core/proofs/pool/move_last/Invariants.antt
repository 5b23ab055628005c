use Rattle.std.proofs.Common.{◌≡◌, ◌+◌, ◌++◌, reverse, vec_len, vec_capacity}
use Rattle.segment_core.proofs.pool.move_last.Given as goal

abbrev pub invariant-loop : goal.invariant-loop
invariant-loop l = record {
  moved : l.from.items ++ reverse l.to.items ≡ l.initial.from.items ++ reverse l.initial.to.items;
  from_len : vec_len l.from + l.counter ≡ vec_len l.initial.from;
  to_len : vec_len l.to ≡ vec_len l.initial.to + l.counter;
  from_capacity : vec_capacity l.from ≡ vec_capacity l.initial.from;
  to_capacity : vec_capacity l.to ≡ vec_capacity l.initial.to;
}
