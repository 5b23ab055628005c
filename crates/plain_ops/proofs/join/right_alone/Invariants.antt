use Rattle.std.proofs.Common.{◌≡◌, ◌++◌, take, map}
use Rattle.flow_model.specs.Rows.{columns_of, alone}
use Rattle.plain_ops.proofs.join.right_alone.Given as goal

abbrev pub invariant-loop-row : goal.invariant-loop-row
invariant-loop-row l = l.rows.items ≡ map (λ t. columns_of l.meeting.columns.now (l.default ++ t)) (alone l.meeting.right_key.now l.left.key l.left.rows (take l.row-index l.right))
