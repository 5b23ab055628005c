use Rattle.std.specs.Prelude.{◌≡◌, ℕ, suc, Bool, true, false, not, ◌&&◌, ◌||◌, ◌==◌, nat_le, nat_lt, if◌then◌else◌, List, [], ◌∷◌, ◌++◌, length, map, find, filter, Option, Some, None, All, IsTrue}
use Rattle.std.specs.List.{list_all, flat_map}
use Rattle.std.specs.Str.{bytes_eq}
use Rattle.flow_types.specs.declared.expr.Expr.{Expr}
use Rattle.flow_types.specs.Tuples.{Tuple}
use Rattle.flow_types.specs.Types.{Fields, is_schema}
use Rattle.flow_types.specs.ExprTypes.{is_limited}
use Rattle.flow_model.specs.declared.op.Op.{Op}
use Rattle.flow_model.specs.declared.op.Op.TheVariants as op
use Rattle.flow_model.specs.declared.op.Branch.{Branch}
use Rattle.flow_model.specs.declared.op.JoinKind.{JoinKind}
use Rattle.flow_model.specs.declared.plan.Node.{Node}
use Rattle.flow_model.specs.declared.plan.Plan.{Plan}
use Rattle.flow_model.specs.Rows.{keeps_left, keeps_right}
use Rattle.flow_model.specs.Segments.{is_delta}
use Rattle.flow_model.specs.Algebra.{is_source}
use Rattle.flow_model.specs.Schemas.{fits_schema, input_at, op_type}

-- The rules that a plan in memory keeps, node by node. They are this project's own.

-- Numbers and places

-- an iteration
abbrev pub is_iteration : Op → Bool
is_iteration (op.Bulk init bind most next until) = true
is_iteration (op.Delta solution workset bind key order merge most delta next) = true
is_iteration _ = false

-- a probe
abbrev pub is_probe : Op → Bool
is_probe (op.Probe input key columns) = true
is_probe _ = false

-- nodes are numbered in their order, from a number on
abbrev pub is_numbered : ℕ → List Node → Bool
is_numbered n [] = true
is_numbered n (node ∷ nodes) = (node.number == n) && is_numbered (suc n) nodes

-- the iteration whose body may go on after a node; 0 where none may
abbrev pub open_after : Node → ℕ
open_after node = if is_iteration node.op then node.number else node.home

-- a body follows its iteration: each node's home is 0, or the iteration whose body may go on
abbrev pub are_at_home : ℕ → List Node → Bool
are_at_home open_home [] = true
are_at_home open_home (node ∷ nodes) = ((node.home == 0) || (node.home == open_home)) && are_at_home (open_after node) nodes

-- a node by its number
abbrev pub node_at : List Node → ℕ → Option Node
node_at nodes n = find (λ (node : Node). node.number == n) nodes

-- a node that is there passes a test
abbrev pub passes : (Node → Bool) → Option Node → Bool
passes test None = false
passes test (Some node) = test node

-- the node of a number is there and passes a test
abbrev pub is_node : List Node → ℕ → (Node → Bool) → Bool
is_node nodes n test = passes test (node_at nodes n)

-- no source and no iteration stands in a body, and a probe in a delta's body alone
abbrev pub is_placed : List Node → Node → Bool
is_placed nodes node =
    (not (is_source node.op || is_iteration node.op) || (node.home == 0))
    && (not (is_probe node.op) || is_node nodes node.home (λ (home : Node). is_delta home.op))

-- an iteration's bind name, in a list
abbrev pub bind_names : Op → List (List ℕ)
bind_names (op.Bulk init bind most next until) = bind ∷ []
bind_names (op.Delta solution workset bind key order merge most delta next) = bind ∷ []
bind_names _ = []

-- the names that a node brings: its own, and an iteration's bind name
abbrev pub names_in : Node → List (List ℕ)
names_in node = node.name ∷ bind_names node.op

-- no name stands twice
abbrev pub are_different : List (List ℕ) → Bool
are_different [] = true
are_different (name ∷ names) = list_all (λ other. not (bytes_eq name other)) names && are_different names

-- References

-- the numbers that a node refers to where it stands, in the order of its op's members
abbrev pub references : Op → List ℕ
references (op.Source fields delimiter) = []
references (op.Map input columns) = input ∷ []
references (op.Filter input test) = input ∷ []
references (op.FlatMap input rows) = input ∷ []
references (op.Union names) = names
references (op.Distinct input) = input ∷ []
references (op.Group input key aggs combine) = input ∷ []
references (op.Top input key order count) = input ∷ []
references (op.Join left right left_key right_key columns kind left_default right_default) = left ∷ right ∷ []
references (op.Cogroup left right left_key right_key left_aggs right_aggs) = left ∷ right ∷ []
references (op.Bulk init bind most next until) = init ∷ []
references (op.Delta solution workset bind key order merge most delta next) = solution ∷ workset ∷ []
references (op.Probe input key columns) = input ∷ []

-- a number in a list, where it is there
abbrev pub listed : Option ℕ → List ℕ
listed None = []
listed (Some n) = n ∷ []

-- the numbers that an iteration refers to at its body's end
abbrev pub end_references : Op → List ℕ
end_references (op.Bulk init bind most next until) = next ∷ listed until
end_references (op.Delta solution workset bind key order merge most delta next) = delta ∷ next ∷ []
end_references _ = []

-- what is visible at a node: the nodes before it in the outer list and in its own; among them an iteration stands, in
-- its own body, for its bind name
abbrev pub is_visible : List Node → Node → ℕ → Bool
is_visible nodes node n =
    nat_lt n node.number && is_node nodes n (λ (m : Node). (m.home == 0) || (m.home == node.home))

-- what is visible at the end of an iteration's body: the body's nodes, and the outer list's up to the iteration, which
-- stands for its bind name
abbrev pub is_visible_at_end : List Node → Node → ℕ → Bool
is_visible_at_end nodes node n =
    is_node nodes n (λ (m : Node). (m.home == node.number) || ((m.home == 0) && nat_le n node.number))

-- Schemas

-- the schema of a node's first or second input; no fields where it has none
abbrev pub input_schema : Node → ℕ → Fields
input_schema node i = input_at node.inputs i

-- the schema of an iteration's bind name: a bulk's is its first rows', a delta's its workset's
abbrev pub bind_schema : Node → Fields
bind_schema node = input_schema node (if is_delta node.op then 1 else 0)

-- the schema of a node that is there, and in its own body that of its bind name
abbrev pub schema_at : ℕ → Option Node → Fields
schema_at home None = []
schema_at home (Some node) = if node.number == home then bind_schema node else node.schema

-- the schema of what a number stands for in an iteration's body, or in the outer list at home 0
abbrev pub schema_in : List Node → ℕ → ℕ → Fields
schema_in nodes home n = schema_at home (node_at nodes n)

-- the schemas of the rows that a node takes: those of what it refers to, and for a probe then the solution's
abbrev pub inputs_of : List Node → Node → List Fields
inputs_of nodes node =
    map (schema_in nodes node.home) (references node.op)
    ++ (if is_probe node.op then schema_in nodes 0 node.home ∷ [] else [])

-- the key of a delta iteration; no fields of another op
abbrev pub delta_key : Op → List ℕ
delta_key (op.Delta solution workset bind key order merge most delta next) = key
delta_key _ = []

-- the key of a node that is there
abbrev pub key_at : Option Node → List ℕ
key_at None = []
key_at (Some node) = delta_key node.op

-- the key of the delta iteration in whose body a node stands
abbrev pub home_key : List Node → Node → List ℕ
home_key nodes node = key_at (node_at nodes node.home)

-- the schema that an op's rows have where it stands, by those that it takes, where it has one
abbrev pub rows_type : List Node → Node → Op → Option Fields
rows_type nodes node o = op_type node.inputs (home_key nodes node) o

-- a schema is this one
abbrev pub is_fields : Option Fields → Fields → Bool
is_fields None fields = false
is_fields (Some found) fields = fits_schema found fields && fits_schema fields found

-- what an iteration's superstep makes fits what it takes the place of
abbrev pub is_fitting : List Node → Node → Op → Bool
is_fitting nodes node (op.Bulk init bind most next until) = fits_schema (schema_in nodes node.number next) (input_schema node 0)
is_fitting nodes node (op.Delta solution workset bind key order merge most delta next) =
    fits_schema (schema_in nodes node.number delta) (input_schema node 0)
    && fits_schema (schema_in nodes node.number next) (input_schema node 1)
is_fitting nodes node _ = true

-- Ranges

-- a number from one to another
abbrev pub is_from : ℕ → ℕ → ℕ → Bool
is_from least most n = nat_le least n && nat_le n most

-- the most supersteps of an iteration, and the most rows of a top
abbrev pub count_limit : ℕ
count_limit = 1000000

-- a byte that may stand between fields: a comma, a semicolon, a bar, a tab or a space
abbrev pub is_delimiter : ℕ → Bool
is_delimiter byte = (byte == 44) || (byte == 59) || (byte == 124) || (byte == 9) || (byte == 32)

-- no number stands twice
abbrev pub are_distinct : List ℕ → Bool
are_distinct [] = true
are_distinct (n ∷ ns) = list_all (λ m. not (m == n)) ns && are_distinct ns

-- a key of at least so many and at most 8 fields, each once
abbrev pub is_key : ℕ → List ℕ → Bool
is_key least key = is_from least 8 (length key) && are_distinct key

-- 1 to 32 columns, each within an expression's limits
abbrev pub are_columns : List Expr → Bool
are_columns columns = is_from 1 32 (length columns) && list_all is_limited columns

-- a branch of a flat map
abbrev pub is_branch : Branch → Bool
is_branch branch = is_limited branch.when && are_columns branch.columns

-- a default is there
abbrev pub is_there : Option Tuple → Bool
is_there None = false
is_there (Some t) = true

-- two tests come out alike
abbrev pub alike : Bool → Bool → Bool
alike true b = b
alike false b = not b

-- the right default is there exactly where the left rows without a partner are kept, and the left one likewise
abbrev pub has_defaults : JoinKind → Option Tuple → Option Tuple → Bool
has_defaults kind left_default right_default =
    alike (is_there right_default) (keeps_left kind) && alike (is_there left_default) (keeps_right kind)

-- the numbers and lists of an op are in their ranges
abbrev pub in_range : Op → Bool
in_range (op.Source fields delimiter) = is_schema fields && is_delimiter delimiter
in_range (op.Map input columns) = are_columns columns
in_range (op.Filter input test) = is_limited test
in_range (op.FlatMap input rows) = is_from 1 8 (length rows) && list_all is_branch rows
in_range (op.Union names) = is_from 2 8 (length names)
in_range (op.Distinct input) = true
in_range (op.Group input key aggs combine) = is_key 0 key && nat_le (length aggs) 16
in_range (op.Top input key order count) = is_key 0 key && nat_le (length order) 8 && is_from 1 count_limit count
in_range (op.Join left right left_key right_key columns kind left_default right_default) =
    is_key 0 left_key && is_key 0 right_key && are_columns columns && has_defaults kind left_default right_default
in_range (op.Cogroup left right left_key right_key left_aggs right_aggs) =
    is_key 1 left_key && is_key 1 right_key && nat_le (length left_aggs) 16 && nat_le (length right_aggs) 16
in_range (op.Bulk init bind most next until) = is_from 1 count_limit most
in_range (op.Delta solution workset bind key order merge most delta next) =
    is_key 1 key && nat_le (length order) 8 && is_from 1 count_limit most
in_range (op.Probe input key columns) = is_key 1 key && are_columns columns

-- a size that segments can have
abbrev pub is_segment_size : ℕ → Bool
is_segment_size n = (n == 4096) || (n == 8192) || (n == 16384) || (n == 32768)

-- Plans

-- two lists of schemas are one
abbrev pub are_inputs : List Fields → List Fields → Bool
are_inputs [] [] = true
are_inputs [] (g ∷ gs) = false
are_inputs (f ∷ fs) [] = false
are_inputs (f ∷ fs) (g ∷ gs) = is_fields (Some f) g && are_inputs fs gs

-- a node keeps the rules: it stands where it may, sees what it refers to, has its numbers in range, takes rows of its
-- inputs' schemas and gives rows of its own, and what a superstep makes fits
abbrev pub node_holds : List Node → Node → Bool
node_holds nodes node =
    is_placed nodes node
    && list_all (is_visible nodes node) (references node.op)
    && list_all (is_visible_at_end nodes node) (end_references node.op)
    && in_range node.op
    && are_inputs (inputs_of nodes node) node.inputs
    && is_fields (rows_type nodes node node.op) node.schema
    && is_fitting nodes node node.op

-- A plan keeps the rules: 1 to 64 nodes, numbered in their order, bodies behind their iterations, no name twice, each
-- node by its own rules, and a result in the outer list.
pub record IsPlan (plan : Plan) : Type 0 where
  pub segment : IsTrue (is_segment_size plan.segment)
  pub count : IsTrue (is_from 1 64 (length plan.nodes))
  pub numbers : IsTrue (is_numbered 1 plan.nodes)
  pub homes : IsTrue (are_at_home 0 plan.nodes)
  pub names : IsTrue (are_different (flat_map names_in plan.nodes))
  pub nodes : All (λ node. IsTrue (node_holds plan.nodes node)) plan.nodes
  pub result : IsTrue (is_node plan.nodes plan.result (λ (m : Node). m.home == 0))
