use Rattle.std.specs.Prelude.{ℕ, zero, suc, ◌+◌, ◌-◌, nat_le, Bool, true, false, if◌then◌else◌, List, [], ◌∷◌, ◌++◌, length, codes, Option, Some, None, unwrap_or, Result, Ok, Err}
use Rattle.serde_json.specs.Data.{Data}
use Rattle.serde_json.specs.Find.{get}
use Rattle.flow_model.specs.declared.plan_code.PlanCode.{PlanCode}
use Rattle.flow_model.specs.declared.plan_code.PlanCode.TheVariants as code
use Rattle.plan_json.specs.declared.reading.Flaw.{Flaw}
use Rattle.plan_json.specs.declared.reading.Flaw.TheVariants as flaw
use Rattle.plan_json.specs.declared.rows.OpName.{OpName}
use Rattle.plan_json.specs.declared.rows.OpName.TheVariants as op_name
use Rattle.plan_json.specs.declared.rows.Form.TheVariants as form
use Rattle.plan_json.specs.Json.{◌>>=◌, items_in}
use Rattle.plan_json.specs.Reading.{Reading, from_two}
use Rattle.plan_json.specs.Rows.{op_name_of, has_only}
use Rattle.plan_json.specs.Names.{name_in}
use Rattle.plan_text.specs.declared.tree.TreeOp.{TreeOp}
use Rattle.plan_text.specs.declared.tree.TreeNode.{TreeNode}
use Rattle.plan_text.specs.declared.fault.PlanFault.{PlanFault}
use Rattle.plan_text.specs.declared.fault.PlanFault.TheVariants as fault
use Rattle.plan_text.specs.Ops.{where_formed, op_in}

-- The nodes of a plan: their numbers, and what is read of each.

-- a node of these parts
abbrev pub node_at : ℕ → ℕ → List ℕ → TreeOp → TreeNode
node_at number home name op = record { number = number; name = name; home = home; op = op }

-- a node of this op: an object with its row's members alone, a name, and its op
abbrev pub node_of : ℕ → ℕ → Data → Option OpName → Reading TreeNode
node_of number home d None = Err flaw.Node
node_of number home d (Some o) =
    where_formed (has_only (form.Node o) d) (from_two (node_at number home) (name_in (get (codes "name") d)) (op_in o d))

-- the node of this number, in the body of the iteration `home` or in the outer list
abbrev pub node_in : ℕ → ℕ → Data → Reading TreeNode
node_in number home d = node_of number home d (op_name_of d)

-- an op with a body
abbrev pub is_iteration : Option OpName → Bool
is_iteration (Some op_name.Bulk) = true
is_iteration (Some op_name.Delta) = true
is_iteration _ = false

-- the nodes of a node's body: those of the list `body` of an iteration; else none
abbrev pub body_of : Data → List Data
body_of d = if is_iteration (op_name_of d) then unwrap_or (get (codes "body") d >>= items_in) [] else []

-- A node's number from 1 in document order, the number of the iteration in whose body it stands, or 0,
-- and its JSON.
pub record Placed : Type 0 where
  pub number : ℕ
  pub home : ℕ
  pub json : Data

-- one node alone, without its body
abbrev pub alone : (number home : ℕ) → Data → List Placed
alone number home d = record { number = number; home = home; json = d } ∷ []

-- the nodes of one list in document order, from a number on: each is followed by those of its body, which `inner` gives
abbrev pub placed_with : (inner : ℕ → ℕ → List Data → List Placed) → (home number : ℕ) → List Data → List Placed
placed_with inner home number [] = []
placed_with inner home number (d ∷ ds) =
    record { number = number; home = home; json = d } ∷ inner number (number + 1) (body_of d)
    ++ placed_with inner home (number + 1 + length (inner number (number + 1) (body_of d))) ds

-- the nodes of one list and of the lists in it, where so many lists stand in one another at most
unfoldable pub placed_up_to : (depth home number : ℕ) → List Data → List Placed
placed_up_to zero home number ds = []
placed_up_to (suc depth) home number ds = placed_with (placed_up_to depth) home number ds

-- How many lists are read that stand in one another. Where more do, more than 64 nodes stand in these.
abbrev pub list_limit : ℕ
list_limit = 65

-- all nodes, from a number on, bodies included
abbrev pub placed : ℕ → List Data → List Placed
placed number ds = placed_up_to list_limit 0 number ds

-- how many nodes stand in a list, where `inner` counts those of a body
abbrev pub count_with : (inner : List Data → ℕ) → List Data → ℕ
count_with inner [] = 0
count_with inner (d ∷ ds) = 1 + inner (body_of d) + count_with inner ds

-- how many nodes stand in a list and in the lists in it, so many deep
unfoldable pub count_up_to : (depth : ℕ) → List Data → ℕ
count_up_to zero ds = 0
count_up_to (suc depth) ds = count_with (count_up_to depth) ds

-- how many nodes may still come after so many, where there may
abbrev pub left_after : (left count : ℕ) → Option ℕ
left_after left count = if nat_le count left then Some (left - count) else None

-- a flaw's code
abbrev pub code_of : Flaw → PlanCode
code_of flaw.Node = code.BadNode
code_of flaw.Name = code.BadName
code_of flaw.Expr = code.BadExpr

-- what is read of a node, with its number at a flaw
abbrev pub told_at : ℕ → Reading TreeNode → Result TreeNode PlanFault
told_at number (Ok node) = Ok node
told_at number (Err f) = Err (fault.Refused number (code_of f))

-- a node that is read, before those after it
abbrev pub before : Result TreeNode PlanFault → Result (List TreeNode) PlanFault → Result (List TreeNode) PlanFault
before (Err f) rest = Err f
before (Ok node) (Err f) = Err f
before (Ok node) (Ok nodes) = Ok (node ∷ nodes)

-- the nodes that are read, or the flaw of the first that has one
abbrev pub nodes_of : List Placed → Result (List TreeNode) PlanFault
nodes_of [] = Ok []
nodes_of (p ∷ ps) = before (told_at p.number (node_in p.number p.home p.json)) (nodes_of ps)
