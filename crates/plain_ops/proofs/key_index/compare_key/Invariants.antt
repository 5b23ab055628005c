use Rattle.std.proofs.Common.{◌≡◌, ◌≤◌, length, drop}
use Rattle.flow_types.specs.Tuples.{key_of, tuple_cmp}
use Rattle.plain_ops.proofs.key_index.compare_key.Given as goal

abbrev pub invariant-loop-i : goal.invariant-loop-i
invariant-loop-i l = record {
  within : l.i ≤ length l.key;
  same : tuple_cmp (key_of l.numbers l.tuple) l.key ≡ tuple_cmp (key_of (drop l.i l.numbers) l.tuple) (drop l.i l.key);
}
