use Rattle.std.proofs.Common.{◌≡◌, take}
use Rattle.flow_model.specs.Rows.{inner_rows}
use Rattle.plain_ops.proofs.join.pairs.Given as goal

abbrev pub invariant-loop-row : goal.invariant-loop-row
invariant-loop-row l = l.rows.items ≡ inner_rows l.meeting.left_key.now l.right.key l.meeting.columns.now (take l.row-index l.left) l.right.rows
