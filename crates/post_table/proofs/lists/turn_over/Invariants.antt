use Rattle.std.proofs.Common.{◌≡◌, ◌+◌, ◌++◌, reverse, vec_len, vec_capacity}
use Rattle.post_table.proofs.lists.turn_over.Given as goal

abbrev pub invariant-segments : goal.invariant-segments
invariant-segments l = record {
  moved : l.to.items ++ reverse l.from.items ≡ l.fn.to.items ++ reverse l.fn.from.items;
  len : vec_len l.to + vec_len l.from ≡ vec_len l.fn.to + vec_len l.fn.from;
  from_capacity : vec_capacity l.from ≡ vec_capacity l.fn.from;
  to_capacity : vec_capacity l.to ≡ vec_capacity l.fn.to;
}

abbrev pub decreases-segments : goal.decreases-segments
decreases-segments l = vec_len l.from
