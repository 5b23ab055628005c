use Rattle.std.proofs.Common.{◌≡◌, take}
use Rattle.std.specs.List.{flat_map}
use Rattle.flow_model.specs.Rows.{with_key}
use Rattle.flow_model.specs.Solutions.{next_entry}
use Rattle.plain_ops.proofs.solutions.merged.Given as goal

abbrev pub invariant-loop-one : goal.invariant-loop-one
invariant-loop-one l = l.entries.items ≡ flat_map (λ k. next_entry l.order l.merge (with_key l.key k l.old) (with_key l.key k l.deltas)) (take l.one-index l.one-items)
