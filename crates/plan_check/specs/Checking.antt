use Rattle.std.specs.Prelude.{ℕ, ◌==◌, Bool, not, ◌||◌, if◌then◌else◌, List, [], ◌∷◌, ◌++◌, Option, Some, None, Result, Ok, Err}
use Rattle.std.specs.List.{list_any}
use Rattle.std.specs.Str.{bytes_eq}
use Rattle.flow_types.specs.Types.{Fields}
use Rattle.flow_model.specs.declared.plan.Node.{Node}
use Rattle.flow_model.specs.declared.plan.Plan.{Plan}
use Rattle.flow_model.specs.declared.plan_code.PlanCode.{PlanCode}
use Rattle.flow_model.specs.declared.plan_code.PlanCode.TheVariants as code
use Rattle.flow_model.specs.Rules.{is_iteration, is_placed, bind_names, references, end_references, inputs_of, home_key, is_fitting}
use Rattle.plan_text.specs.declared.tree.TreeNode.{TreeNode}
use Rattle.plan_text.specs.declared.tree.PlanTree.{PlanTree}
use Rattle.plan_text.specs.declared.fault.PlanFault.{PlanFault}
use Rattle.plan_text.specs.declared.fault.PlanFault.TheVariants as fault
use Rattle.plan_text.specs.Plans.{plan_of}
use Rattle.plan_typing.specs.Typing.{typed_op}
use Rattle.plan_check.specs.Places.{Place, places, is_outer, number_of, stands_before}
use Rattle.plan_check.specs.Numbering.{bare_node}

-- A plan's first fault after reading, or the plan. The codes and their rules are this project's own.

infixl 10 ◌>>then◌
-- what follows a check that ended well
abbrev pub ◌>>then◌ : {A B E : Type 0} → Result A E → (A → Result B E) → Result B E
Ok x >>then f = f x
Err e >>then f = Err e

-- One node

-- a name of a node stands before it, or its two names are one
abbrev pub is_duplicate : List Place → Node → Bool
is_duplicate ps node =
    stands_before ps node.number node.name
    || list_any (λ bind. stands_before ps node.number bind || bytes_eq bind node.name) (bind_names node.op)

-- among numbers there is one of no node
abbrev pub has_unknown : List ℕ → Bool
has_unknown numbers = list_any (λ n. n == 0) numbers

-- a node with the schemas of the rows that it takes, and with its own
abbrev pub with_schemas : Node → List Fields → Fields → Node
with_schemas node inputs schema =
    record { number = node.number; name = node.name; home = node.home; op = node.op; inputs = inputs; schema = schema }

-- a node whose op has a schema
abbrev pub with_type : Node → List Fields → Result Fields PlanCode → Result Node PlanCode
with_type node inputs (Err c) = Err c
with_type node inputs (Ok schema) = Ok (with_schemas node inputs schema)

-- a node's types, after the nodes before it
abbrev pub typed_node : List Node → Node → Result Node PlanCode
typed_node done node = with_type node (inputs_of done node) (typed_op (inputs_of done node) (home_key done node) node.op)

-- a node, after the nodes before it: the first code that refuses it, or the node with its schemas
abbrev pub checked_node : List Place → List Node → Node → Result Node PlanCode
checked_node ps done node =
    if is_duplicate ps node then Err code.Duplicate
    else (if not (is_placed done node) then Err code.Misplaced
    else (if has_unknown (references node.op) then Err code.UnknownName
    else typed_node done node))

-- the end of an iteration's body, after the body's nodes: the first code that refuses what its superstep makes
abbrev pub checked_end : List Node → Node → Result Unit PlanCode
checked_end done node =
    if has_unknown (end_references node.op) then Err code.UnknownName
    else (if not (is_fitting done node node.op) then Err code.NoFit
    else Ok tt)

-- All nodes

-- a refusal at the node of this number
abbrev pub told_at : {A : Type 0} → ℕ → Result A PlanCode → Result A PlanFault
told_at number (Ok x) = Ok x
told_at number (Err c) = Err (fault.Refused number c)

-- the end of the body that is open, if one is
abbrev pub closed : List Node → Option Node → Result Unit PlanFault
closed done None = Ok tt
closed done (Some iteration) = told_at iteration.number (checked_end done iteration)

-- before a node of the outer list the body that is open ends
abbrev pub closed_before : List Node → Option Node → TreeNode → Result Unit PlanFault
closed_before done current t = if t.home == 0 then closed done current else Ok tt

-- the iteration whose body is open after a node
abbrev pub opened : Option Node → Node → Option Node
opened current node = if node.home == 0 then (if is_iteration node.op then Some node else None) else current

-- The nodes of a plan one after the other, each after the nodes before it; an iteration's end comes after its body, and
-- before the next node of the outer list.
abbrev pub checked_nodes : List Place → List Node → Option Node → List TreeNode → Result (List Node) PlanFault
checked_nodes ps done current [] = closed done current >>then λ _. Ok done
checked_nodes ps done current (t ∷ ts) =
    closed_before done current t >>then λ _.
    told_at t.number (checked_node ps done (bare_node ps t)) >>then λ node.
    checked_nodes ps (done ++ node ∷ []) (opened current node) ts

-- The plan

-- a plan of these nodes whose result is the node of this number
abbrev pub plan_of_nodes : ℕ → ℕ → List Node → Result Plan PlanFault
plan_of_nodes segment result nodes =
    if result == 0 then Err (fault.Refused 0 code.BadResult) else Ok (record { segment = segment; nodes = nodes; result = result })

-- The plan of a tree, or the first fault of its checking: the first node with a fault, and of its faults the first in the
-- order of the codes; the result is looked at last.
abbrev pub checked : PlanTree → Result Plan PlanFault
checked t =
    checked_nodes (places t.nodes) [] None t.nodes >>then λ nodes.
    plan_of_nodes t.segment (number_of (places t.nodes) is_outer t.result) nodes

-- The plan of a plan's bytes, or its first fault: reading's, then the check's.
abbrev pub accepted : List ℕ → Result Plan PlanFault
accepted bytes = plan_of bytes >>then checked
