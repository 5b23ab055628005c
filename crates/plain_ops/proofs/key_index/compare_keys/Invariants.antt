use Rattle.std.proofs.Common.{◌≡◌, drop}
use Rattle.flow_types.specs.Tuples.{key_of, tuple_cmp}
use Rattle.plain_ops.proofs.key_index.compare_keys.Given as goal

abbrev pub invariant-loop-number : goal.invariant-loop-number
invariant-loop-number l = tuple_cmp (key_of l.numbers l.a) (key_of l.numbers l.b) ≡ tuple_cmp (key_of (drop l.number-index l.numbers) l.a) (key_of (drop l.number-index l.numbers) l.b)
