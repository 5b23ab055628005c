use Rattle.std.proofs.Common.{◌≡◌, take}
use Rattle.flow_model.specs.Rows.{flat_map_rows}
use Rattle.plain_ops.proofs.row_ops.flat_map_rows.Given as goal

abbrev pub invariant-loop-row : goal.invariant-loop-row
invariant-loop-row l = l.mapped.items ≡ flat_map_rows l.branches (take l.row-index l.rows)
