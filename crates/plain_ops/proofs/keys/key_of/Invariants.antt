use Rattle.std.proofs.Common.{◌≡◌, take}
use Rattle.flow_types.specs.Tuples.{key_of}
use Rattle.plain_ops.proofs.keys.key_of.Given as goal

abbrev pub invariant-loop-number : goal.invariant-loop-number
invariant-loop-number l = l.values.items ≡ key_of (take l.number-index l.numbers) l.tuple
