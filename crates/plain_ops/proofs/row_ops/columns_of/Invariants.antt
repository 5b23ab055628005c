use Rattle.std.proofs.Common.{◌≡◌, take}
use Rattle.flow_model.specs.Rows.{columns_of}
use Rattle.plain_ops.proofs.row_ops.columns_of.Given as goal

abbrev pub invariant-loop-column : goal.invariant-loop-column
invariant-loop-column l = l.values.items ≡ columns_of (take l.column-index l.columns) l.tuple
