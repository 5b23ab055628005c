use Rattle.std.proofs.Common.{◌≡◌, ◌++◌, take, map}
use Rattle.flow_types.specs.Tuples.{key_of}
use Rattle.plain_ops.proofs.keys.push_keys.Given as goal

abbrev pub invariant-loop-row : goal.invariant-loop-row
invariant-loop-row l = l.keys.items ≡ l.initial.keys.items ++ map (key_of l.numbers) (take l.row-index l.rows)
