use Rattle.std.proofs.Common.{◌≡◌, take}
use Rattle.flow_model.specs.Rows.{filter_rows}
use Rattle.plain_ops.proofs.row_ops.filter_rows.Given as goal

abbrev pub invariant-loop-row : goal.invariant-loop-row
invariant-loop-row l = l.kept.items ≡ filter_rows l.test (take l.row-index l.rows)
