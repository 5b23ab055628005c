use Rattle.std.proofs.Common.{◌≡◌, ◌++◌, take}
use Rattle.flow_model.specs.Rows.{branch_rows}
use Rattle.plain_ops.proofs.row_ops.push_branches.Given as goal

abbrev pub invariant-loop-branch : goal.invariant-loop-branch
invariant-loop-branch l = l.rows.items ≡ l.initial.rows.items ++ branch_rows (take l.branch-index l.branches) l.tuple
