use Rattle.std.proofs.Common.{◌≡◌, take}
use Rattle.std.specs.List.{flat_map}
use Rattle.flow_model.specs.Rows.{with_key}
use Rattle.flow_model.specs.Solutions.{greatest_row}
use Rattle.plain_ops.proofs.solutions.chosen.Given as goal

abbrev pub invariant-loop-one : goal.invariant-loop-one
invariant-loop-one l = l.entries.items ≡ flat_map (λ k. greatest_row l.order (with_key l.key k l.rows)) (take l.one-index l.one-items)
