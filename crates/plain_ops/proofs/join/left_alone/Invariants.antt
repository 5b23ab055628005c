use Rattle.std.proofs.Common.{◌≡◌, ◌++◌, take, map}
use Rattle.flow_model.specs.Rows.{columns_of, alone}
use Rattle.plain_ops.proofs.join.left_alone.Given as goal

abbrev pub invariant-loop-row : goal.invariant-loop-row
invariant-loop-row l = l.rows.items ≡ map (λ t. columns_of l.meeting.columns.now (t ++ l.default)) (alone l.meeting.left_key.now l.right.key l.right.rows (take l.row-index l.left))
