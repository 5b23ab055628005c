use Rattle.std.specs.Prelude.{◌≡◌, ℕ, ◌<◌, ◌==◌, if◌then◌else◌, List, [], ◌∷◌, ◌++◌, slice_get, Option, Some, None, Result, Ok, Err, ⊤}
use Rattle.flow_model.specs.declared.plan.Node.{Node}
use Rattle.flow_model.specs.Rules.{is_iteration}
use Rattle.plan_text.specs.declared.tree.TreeNode.{TreeNode}
use Rattle.plan_text.specs.declared.fault.PlanFault.{PlanFault}
use Rattle.plan_text.specs.Told.{IsFault}
use Rattle.plan_check.specs.Places.{Place}
use Rattle.plan_check.specs.Numbering.{bare_node}
use Rattle.plan_check.specs.Checking.{◌>>then◌, checked_node, told_at, closed, closed_before, opened, checked_nodes}

-- How far the check has come: the nodes that are done, and the iteration whose body is open, if one is.
pub record Walked : Type 0 where
  pub done : List Node
  pub current : Option Node

-- before the first node
abbrev pub unwalked : Walked
unwalked = record { done = []; current = None }

-- after one more node that is done
abbrev pub added : Walked → Node → Walked
added w node = record { done = w.done ++ node ∷ []; current = opened w.current node }

-- a node without schemas, checked and added, or its fault
abbrev pub taken : List Place → Walked → TreeNode → Result Walked PlanFault
taken ps w t = told_at t.number (checked_node ps w.done (bare_node ps t)) >>then λ node. Ok (added w node)

-- one more node, before which the open body may end
abbrev pub walked : List Place → Walked → TreeNode → Result Walked PlanFault
walked ps w t = closed_before w.done w.current t >>then λ _. taken ps w t

-- the nodes, after the end of the last body
abbrev pub finished : Walked → Result (List Node) PlanFault
finished w = closed w.done w.current >>then λ _. Ok w.done

-- the rest of the nodes
abbrev pub walked_on : List Place → List TreeNode → Walked → Result (List Node) PlanFault
walked_on ps ts w = checked_nodes ps w.done w.current ts

-- the place of the iteration whose body is open, after one more node at a place
abbrev pub opened_at : Option ℕ → ℕ → Node → Option ℕ
opened_at iteration place node = if node.home == 0 then (if is_iteration node.op then Some place else None) else iteration

-- the node at a place that may be absent
abbrev pub node_of : List Node → Option ℕ → Option Node
node_of done None = None
node_of done (Some place) = slice_get done place

-- a place that may be absent is one of so many
abbrev pub IsWithin : ℕ → Option ℕ → Type 0
IsWithin count None = ⊤
IsWithin count (Some place) = place < count

-- the definition's value stands now, or the fault is the definition's
abbrev pub Stands : {A : Type 0} → A → Result Unit PlanFault → Result A PlanFault → Type 0
Stands now (Ok _) given = given ≡ Ok now
Stands now (Err f) given = IsFault f given
