use Rattle.std.proofs.Common.{◌≡◌, take}
use Rattle.std.specs.List.{flat_map}
use Rattle.flow_model.specs.Algebra.{rows_at}
use Rattle.plain_eval.proofs.body.union_rows.Given as goal

abbrev pub invariant-loop-number : goal.invariant-loop-number
invariant-loop-number l = l.rows.items ≡ flat_map (rows_at l.made) (take l.number-index l.numbers)
