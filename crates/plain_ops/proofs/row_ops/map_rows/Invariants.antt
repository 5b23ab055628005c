use Rattle.std.proofs.Common.{◌≡◌, take}
use Rattle.flow_model.specs.Rows.{map_rows}
use Rattle.plain_ops.proofs.row_ops.map_rows.Given as goal

abbrev pub invariant-loop-row : goal.invariant-loop-row
invariant-loop-row l = l.mapped.items ≡ map_rows l.columns (take l.row-index l.rows)
