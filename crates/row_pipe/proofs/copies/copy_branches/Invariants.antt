use Rattle.std.proofs.Common.{◌≡◌, take}
use Rattle.row_pipe.proofs.copies.copy_branches.Given as goal

abbrev pub invariant-loop-branch : goal.invariant-loop-branch
invariant-loop-branch l = l.copies.items ≡ take l.branch-index l.branches
