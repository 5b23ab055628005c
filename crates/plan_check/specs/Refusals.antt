use Rattle.std.specs.Prelude.{◌≡◌, ◌⊎◌, ℕ, Bool, true, false, ◌==◌, List, [], ◌∷◌, ◌++◌, Option, Some, None, Ok, Err, ⊤}
use Rattle.flow_types.specs.Types.{Fields}
use Rattle.flow_model.specs.declared.plan.Node.{Node}
use Rattle.flow_model.specs.declared.plan_code.PlanCode.{PlanCode}
use Rattle.flow_model.specs.declared.plan_code.PlanCode.TheVariants as code
use Rattle.flow_model.specs.Rules.{is_placed, references, end_references, inputs_of, home_key, is_fitting}
use Rattle.plan_text.specs.declared.tree.TreeNode.{TreeNode}
use Rattle.plan_text.specs.declared.tree.PlanTree.{PlanTree}
use Rattle.plan_text.specs.declared.fault.PlanFault.TheVariants as fault
use Rattle.plan_typing.specs.Typing.{typed_op}
use Rattle.plan_check.specs.Places.{Place, places, is_outer, number_of}
use Rattle.plan_check.specs.Numbering.{bare_node}
use Rattle.plan_check.specs.Checking.{is_duplicate, has_unknown, with_schemas, checked}
use Rattle.plan_check.specs.Walks.{Walked, unwalked, added}

-- What a refusal of the check means, rule by rule. The codes and their order are this project's own.

-- ---- one node, after the nodes before it

-- A node passes every rule: its names are new, it stands where it may, it sees what it refers to, and its op has this schema.
pub record Passes (ps : List Place) (done : List Node) (node : Node) (schema : Fields) : Type 0 where
  pub single : is_duplicate ps node ≡ false
  pub placed : is_placed done node ≡ true
  pub known : has_unknown (references node.op) ≡ false
  pub typed : typed_op (inputs_of done node) (home_key done node) node.op ≡ Ok schema

-- The rule of this code is the first that a node fails: it passes those of the codes before.
pub data FailsFirst (ps : List Place) (done : List Node) (node : Node) : PlanCode → Type 0 where
  duplicate : is_duplicate ps node ≡ true → FailsFirst ps done node code.Duplicate
  misplaced : is_duplicate ps node ≡ false → is_placed done node ≡ false → FailsFirst ps done node code.Misplaced
  unknown : is_duplicate ps node ≡ false → is_placed done node ≡ true → has_unknown (references node.op) ≡ true → FailsFirst ps done node code.UnknownName
  untyped : (why : PlanCode) → is_duplicate ps node ≡ false → is_placed done node ≡ true → has_unknown (references node.op) ≡ false
      → typed_op (inputs_of done node) (home_key done node) node.op ≡ Err why → FailsFirst ps done node why

-- ---- the end of an iteration's body, after the body's nodes

-- An end passes every rule: it sees what it refers to, and what its superstep makes fits.
pub record EndPasses (done : List Node) (iteration : Node) : Type 0 where
  pub known : has_unknown (end_references iteration.op) ≡ false
  pub fits : is_fitting done iteration iteration.op ≡ true

-- The rule of this code is the first that an end fails.
pub data EndFailsFirst (done : List Node) (iteration : Node) : PlanCode → Type 0 where
  unknown : has_unknown (end_references iteration.op) ≡ true → EndFailsFirst done iteration code.UnknownName
  unfitting : has_unknown (end_references iteration.op) ≡ false → is_fitting done iteration iteration.op ≡ false → EndFailsFirst done iteration code.NoFit

-- the end of the open body passes, where a body is open
abbrev pub ClosePasses : List Node → Option Node → Type 0
ClosePasses done None = ⊤
ClosePasses done (Some iteration) = EndPasses done iteration

-- ---- nodes one after the other

-- All these nodes pass, one after the other, and the check then stands here. Before a node of the outer list the end of the
-- open body passes.
abbrev pub AllPass : List Place → Walked → List TreeNode → Walked → Type 0
AllPass ps w [] after = w ≡ after
AllPass ps w (t ∷ ts) after =
    ((t.home == 0) ≡ true → ClosePasses w.done w.current)
    × ((schema : Fields) × (Passes ps w.done (bare_node ps t) schema
    × AllPass ps (added w (with_schemas (bare_node ps t) (inputs_of w.done (bare_node ps t)) schema)) ts after))

-- no node of a body is left
abbrev pub IsOver : List TreeNode → Type 0
IsOver [] = ⊤
IsOver (t ∷ ts) = (t.home == 0) ≡ true

-- A fault at a node: all nodes before it pass, and so does the end of a body before it; this node fails.
pub record FaultAtNode (ps : List Place) (w : Walked) (nodes : List TreeNode) (number : ℕ) (why : PlanCode) : Type 0 where
  pub front : List TreeNode
  pub node : TreeNode
  pub back : List TreeNode
  pub parts : nodes ≡ front ++ node ∷ back
  pub at : Walked
  pub before : AllPass ps w front at
  pub closed : (node.home == 0) ≡ true → ClosePasses at.done at.current
  pub numbered : number ≡ node.number
  pub fails : FailsFirst ps at.done (bare_node ps node) why

-- A fault at the end of a body, under its iteration's number: all nodes up to there pass; this end fails.
pub record FaultAtEnd (ps : List Place) (w : Walked) (nodes : List TreeNode) (number : ℕ) (why : PlanCode) : Type 0 where
  pub front : List TreeNode
  pub back : List TreeNode
  pub parts : nodes ≡ front ++ back
  pub over : IsOver back
  pub at : Walked
  pub before : AllPass ps w front at
  pub iteration : Node
  pub opened : at.current ≡ Some iteration
  pub numbered : number ≡ iteration.number
  pub fails : EndFailsFirst at.done iteration why

-- A fault of the result: all nodes and ends pass, and the result names no node of the outer list.
pub record FaultAtResult (t : PlanTree) (number : ℕ) (why : PlanCode) : Type 0 where
  pub at : Walked
  pub before : AllPass (places t.nodes) unwalked t.nodes at
  pub closed : ClosePasses at.done at.current
  pub numbered : number ≡ 0
  pub coded : why ≡ code.BadResult
  pub missing : number_of (places t.nodes) is_outer t.result ≡ 0

-- What the check of a tree refuses is the first fault: the first node or end that fails a rule, and of its rules the first
-- that it fails; the result is looked at last.
abbrev pub RefusesFirst : Type 0
RefusesFirst =
    (t : PlanTree) (number : ℕ) (why : PlanCode) → checked t ≡ Err (fault.Refused number why)
    → FaultAtNode (places t.nodes) unwalked t.nodes number why
    ⊎ (FaultAtEnd (places t.nodes) unwalked t.nodes number why ⊎ FaultAtResult t number why)
