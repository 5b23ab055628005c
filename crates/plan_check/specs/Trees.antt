use Rattle.std.specs.Prelude.{ℕ, Bool, true, not, ◌&&◌, ◌||◌, ◌==◌, if◌then◌else◌, List, [], ◌∷◌, length, suc, All, IsTrue}
use Rattle.flow_model.specs.declared.op.Op.{Op}
use Rattle.flow_model.specs.declared.op.Op.TheVariants as op
use Rattle.flow_model.specs.Rules.{is_from, is_delimiter, in_range, is_segment_size}
use Rattle.plan_text.specs.declared.tree.TreeOp.{TreeOp}
use Rattle.plan_text.specs.declared.tree.TreeNode.{TreeNode}
use Rattle.plan_text.specs.declared.tree.PlanTree.{PlanTree}
use Rattle.plan_check.specs.Places.{binds_of}
use Rattle.plan_check.specs.Numbering.{numbered}

-- What reading leaves of a plan. The rules are this project's own.

-- nodes are numbered in their order, from a number on
abbrev pub are_numbered : ℕ → List TreeNode → Bool
are_numbered n [] = true
are_numbered n (node ∷ nodes) = (node.number == n) && are_numbered (suc n) nodes

-- an op with a body, which alone brings a bind name
abbrev pub has_bind : TreeOp → Bool
has_bind o = not (length (binds_of o) == 0)

-- the iteration whose body may go on after a node of the outer list, or of a body
abbrev pub open_behind : TreeNode → ℕ → ℕ
open_behind node open_home = if node.home == 0 then (if has_bind node.op then node.number else 0) else open_home

-- an iteration that stands in a body
abbrev pub is_nested : TreeNode → Bool
is_nested node = not (node.home == 0) && has_bind node.op

-- A body follows its iteration: each node's home is 0, or the iteration whose body may go on. An iteration in a body is
-- refused, so nothing is said of the nodes behind it.
abbrev pub are_in_place : ℕ → List TreeNode → Bool
are_in_place open_home [] = true
are_in_place open_home (node ∷ nodes) =
    ((node.home == 0) || (node.home == open_home)) && (is_nested node || are_in_place (open_behind node open_home) nodes)

-- an op in its ranges; a source's schema is left to the check of types
abbrev pub is_formed : Op → Bool
is_formed (op.Source fields delimiter) = is_delimiter delimiter
is_formed o = in_range o

-- an op with no node's number for any name
abbrev pub unnumbered : TreeOp → Op
unnumbered o = numbered (λ name. 0) (λ name. 0) o

-- A tree as reading leaves it: 1 to 64 nodes, numbered in document order, bodies behind their iterations, each op in its
-- ranges, and a segment's size.
pub record IsTree (t : PlanTree) : Type 0 where
  pub segment : IsTrue (is_segment_size t.segment)
  pub count : IsTrue (is_from 1 64 (length t.nodes))
  pub numbers : IsTrue (are_numbered 1 t.nodes)
  pub homes : IsTrue (are_in_place 0 t.nodes)
  pub ops : All (λ (node : TreeNode). IsTrue (is_formed (unnumbered node.op))) t.nodes
