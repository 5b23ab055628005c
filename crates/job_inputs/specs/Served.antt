use Rattle.std.specs.Prelude.{ℕ, Bool, true, false, not, List, find, Option, Some, None, Result, Ok, Err}
use Rattle.flow_model.specs.declared.plan.Plan.{Plan}
use Rattle.flow_model.specs.declared.plan_code.PlanCode.TheVariants as code
use Rattle.plan_text.specs.declared.tree.TreeOp.{TreeOp}
use Rattle.plan_text.specs.declared.tree.TreeOp.TheVariants as tree
use Rattle.plan_text.specs.declared.tree.TreeNode.{TreeNode}
use Rattle.plan_text.specs.declared.tree.PlanTree.{PlanTree}
use Rattle.plan_text.specs.declared.fault.PlanFault.{PlanFault}
use Rattle.plan_text.specs.declared.fault.PlanFault.TheVariants as fault
use Rattle.plan_text.specs.Plans.{plan_of}
use Rattle.plan_check.specs.Checking.{◌>>then◌, checked}
use Rattle.job_words.specs.declared.program.Program.{Program}
use Rattle.job_words.specs.declared.program.Program.TheVariants as program

-- The plan in a file, as a program serves it. The runtime builds sources and filters so far, and refuses a plan with
-- another op between reading and checking, at its first such node; the definitions' own program serves every op. The rule is
-- this project's own.

-- a program serves an op
abbrev pub is_built : Program → TreeOp → Bool
is_built program.PlainRun o = true
is_built program.FlinkRun (tree.Source fields delimiter) = true
is_built program.FlinkRun (tree.Filter input test) = true
is_built program.FlinkRun _ = false

-- a tree, unless it has a node whose op isn't built
abbrev pub unless_unbuilt : PlanTree → Option TreeNode → Result PlanTree PlanFault
unless_unbuilt t None = Ok t
unless_unbuilt t (Some node) = Err (fault.Refused node.number code.NotBuilt)

-- a tree all of whose ops are built, or the first node whose op isn't
abbrev pub built_tree : Program → PlanTree → Result PlanTree PlanFault
built_tree p t = unless_unbuilt t (find (λ (node : TreeNode). not (is_built p node.op)) t.nodes)

-- The plan of a file's bytes, or the first fault: of its reading, of an op that isn't built, of its checking.
abbrev pub served : Program → List ℕ → Result Plan PlanFault
served p bytes = plan_of bytes >>then λ t. built_tree p t >>then λ u. checked u
