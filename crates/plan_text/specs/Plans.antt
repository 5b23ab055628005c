use Rattle.std.specs.Prelude.{ℕ, Bool, ◌&&◌, nat_le, nat_lt, if◌then◌else◌, List, length, codes, Option, Some, None, is_some, Result, Ok, Err}
use Rattle.std.specs.Str.{is_utf8}
use Rattle.serde_json.specs.Data.{Data}
use Rattle.serde_json.specs.Find.{get}
use Rattle.serde_json.specs.Read.{read}
use Rattle.flow_model.specs.declared.plan_code.PlanCode.{PlanCode}
use Rattle.flow_model.specs.declared.plan_code.PlanCode.TheVariants as code
use Rattle.flow_model.specs.Rules.{is_segment_size}
use Rattle.plan_json.specs.declared.rows.Form.TheVariants as form
use Rattle.plan_json.specs.Json.{◌>>=◌, only_if, items_in}
use Rattle.plan_json.specs.Rows.{has_only}
use Rattle.plan_json.specs.Names.{name_of}
use Rattle.plan_json.specs.Numbers.{number_of}
use Rattle.plan_text.specs.declared.tree.TreeNode.{TreeNode}
use Rattle.plan_text.specs.declared.tree.PlanTree.{PlanTree}
use Rattle.plan_text.specs.declared.fault.PlanFault.{PlanFault}
use Rattle.plan_text.specs.declared.fault.PlanFault.TheVariants as fault
use Rattle.plan_text.specs.Nodes.{placed, nodes_of}

-- A plan's tree, or the first fault of its reading. The codes and their rules are this project's own.

-- the most bytes of a plan
abbrev pub byte_limit : ℕ
byte_limit = 1048576

-- the most nodes, bodies counted
abbrev pub node_limit : ℕ
node_limit = 64

-- the member `segment`; 32,768 where it is absent
abbrev pub segment_in : Option Data → Option ℕ
segment_in None = Some 32768
segment_in (Some d) = number_of 4096 32768 d >>= λ n. only_if (is_segment_size n) n

-- the member `nodes`: at least one
abbrev pub nodes_in : Option Data → Option (List Data)
nodes_in member = member >>= items_in >>= λ items. only_if (nat_le 1 (length items)) items

-- A plan's own members.
pub record Outline : Type 0 where
  pub segment : ℕ
  pub nodes : List Data
  pub result : List ℕ

-- an object with the version 1, its own members alone, and these in their forms
abbrev pub outline_of : Data → Option Outline
outline_of d =
    segment_in (get (codes "segment") d) >>= λ segment.
    nodes_in (get (codes "nodes") d) >>= λ nodes.
    (get (codes "result") d >>= name_of) >>= λ result.
    only_if (has_only form.Plan d && is_some (get (codes "version") d >>= number_of 1 1)) (record { segment = segment; nodes = nodes; result = result })

-- a plan's fault
abbrev pub refused : ℕ → PlanCode → Result PlanTree PlanFault
refused node c = Err (fault.Refused node c)

-- a plan whose nodes are read
abbrev pub tree_of : ℕ → List ℕ → Result (List TreeNode) PlanFault → Result PlanTree PlanFault
tree_of segment result (Err f) = Err f
tree_of segment result (Ok nodes) = Ok (record { segment = segment; nodes = nodes; result = result })

-- a plan of this outline
abbrev pub outlined : Option Outline → Result PlanTree PlanFault
outlined None = refused 0 code.BadPlan
outlined (Some o) = if nat_lt node_limit (length (placed 1 o.nodes)) then refused 0 code.TooMany else tree_of o.segment o.result (nodes_of (placed 1 o.nodes))

-- a plan's JSON
abbrev pub plan_in : Option Data → Result PlanTree PlanFault
plan_in None = refused 0 code.BadJson
plan_in (Some d) = outlined (outline_of d)

-- what `serde_json` reads of bytes
abbrev pub json_of : List ℕ → Option Data
json_of bytes = if is_utf8 bytes then read bytes else None

-- The tree of a plan's bytes, or the first fault of its reading: the first node with a fault, 0 being the
-- plan itself, and of its faults the first in the order of the codes.
abbrev pub plan_of : List ℕ → Result PlanTree PlanFault
plan_of bytes = if nat_lt byte_limit (length bytes) then refused 0 code.TooBig else plan_in (json_of bytes)
