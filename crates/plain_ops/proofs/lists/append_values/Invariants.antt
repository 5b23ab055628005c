use Rattle.std.proofs.Common.{◌≡◌, ◌++◌, take}
use Rattle.plain_ops.proofs.lists.append_values.Given as goal

abbrev pub invariant-loop-value : goal.invariant-loop-value
invariant-loop-value l = l.values.items ≡ l.initial.values.items ++ take l.value-index l.more
