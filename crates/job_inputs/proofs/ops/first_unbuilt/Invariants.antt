use Rattle.std.proofs.Common.{◌≡◌, not, drop}
use Rattle.std.specs.Prelude.{find}
use Rattle.plan_text.specs.declared.tree.TreeNode.{TreeNode}
use Rattle.job_inputs.specs.Served.{is_built}
use Rattle.job_inputs.proofs.ops.first_unbuilt.Given as goal

abbrev pub invariant-loop-i : goal.invariant-loop-i
invariant-loop-i l =
    find (λ (node : TreeNode). not (is_built l.program node.op)) l.nodes ≡ find (λ (node : TreeNode). not (is_built l.program node.op)) (drop l.i l.nodes)
