use Rattle.std.specs.Prelude.{ℕ, Bool, List, [], map, filter, All, IsTrue}
use Rattle.std.specs.List.{AllZip, list_all}
use Rattle.flow_model.specs.declared.op.Op.{Op}
use Rattle.flow_model.specs.declared.op.Op.TheVariants as op
use Rattle.flow_model.specs.declared.plan.Node.{Node}
use Rattle.flow_model.specs.declared.plan.Plan.{Plan}
use Rattle.flow_model.specs.Env.{Tuples}
use Rattle.flow_model.specs.Solutions.{no_solution}
use Rattle.flow_model.specs.Algebra.{Env, rows_at, is_source, source_numbers, given, nodes_of, superstep, BulkState, bulk_states, DeltaState, delta_states, node_rows, eval, Moment, moments_of}
use Rattle.flow_model.specs.Rules.{bind_schema, schema_in, IsPlan}
use Rattle.model_laws.specs.LawsOfFits.{AreTuplesOf, states_values}

-- The law of schemas, whole: what a plan that keeps the rules makes of tuples of its sources' schemas is tuples of its
-- nodes' schemas, in the outer list and in each superstep.

-- a node's op states values that a field can hold
abbrev pub node_states_values : Node → Bool
node_states_values node = states_values node.op

-- each op of a plan states values that a field can hold, as each does in memory
abbrev pub StatesValues : Plan → Type 0
StatesValues plan = IsTrue (list_all node_states_values plan.nodes)

-- as many inputs as sources, each of tuples of its source's schema
abbrev pub AreInputsOf : Plan → List Tuples → Type 0
AreInputsOf plan inputs =
    AllZip (λ (node : Node) rows. AreTuplesOf node.schema rows) (filter (λ (node : Node). is_source node.op) plan.nodes) inputs

-- what stands under the numbers of nodes is tuples of the nodes' schemas
abbrev pub NodesFit : List Node → Env → Type 0
NodesFit nodes env = All (λ (node : Node). AreTuplesOf node.schema (rows_at env node.number)) nodes

-- the rows that an iteration's bind name stands for: those of each of its states, and of a delta's the worksets
abbrev pub bound_lists : Env → List Node → Env → ℕ → Op → List Tuples
bound_lists inputs nodes env number (op.Bulk init bind most next until) =
    map (λ (s : BulkState). s.rows) (bulk_states inputs nodes env number init most next until)
bound_lists inputs nodes env number (op.Delta solution workset bind key order merge most delta next) =
    map (λ (s : DeltaState). s.workset) (delta_states inputs nodes env number solution workset key order merge most delta next)
bound_lists inputs nodes env number _ = []

-- the entries of a delta's solution in each of its states
abbrev pub held_lists : Env → List Node → Env → ℕ → Op → List Tuples
held_lists inputs nodes env number (op.Delta solution workset bind key order merge most delta next) =
    map (λ (s : DeltaState). s.entries) (delta_states inputs nodes env number solution workset key order merge most delta next)
held_lists inputs nodes env number _ = []

-- what is evaluated at the end of an iteration's supersteps, one from each of its states; from the last state none is
-- run, and it would be so of that one too
abbrev pub superstep_ends : Env → List Node → Env → ℕ → Op → List Env
superstep_ends inputs nodes env number (op.Bulk init bind most next until) =
    map (λ (s : BulkState). superstep inputs nodes no_solution env number s.rows) (bulk_states inputs nodes env number init most next until)
superstep_ends inputs nodes env number (op.Delta solution workset bind key order merge most delta next) =
    map (λ (s : DeltaState). superstep inputs nodes (record { key = key; entries = s.entries }) env number s.workset)
    (delta_states inputs nodes env number solution workset key order merge most delta next)
superstep_ends inputs nodes env number _ = []

-- A node of the outer list gives tuples of its schema. Where it is an iteration, its bind name stands for tuples of the
-- bind name's schema, its solution holds tuples of the node's, and in each superstep the nodes of its body give tuples
-- of theirs.
pub record MomentFits (inputs : Env) (nodes : List Node) (m : Moment) : Type 0 where
  pub rows : AreTuplesOf m.node.schema (node_rows inputs nodes m.before m.node.number m.node.op)
  pub bound : All (AreTuplesOf (bind_schema m.node)) (bound_lists inputs nodes m.before m.node.number m.node.op)
  pub held : All (AreTuplesOf m.node.schema) (held_lists inputs nodes m.before m.node.number m.node.op)
  pub bodies : All (NodesFit (nodes_of m.node.number nodes)) (superstep_ends inputs nodes m.before m.node.number m.node.op)

-- All nodes of the outer list do so, and the result is tuples of the result node's schema.
pub record PlanFits (plan : Plan) (inputs : List Tuples) : Type 0 where
  pub nodes : All (MomentFits (given (source_numbers plan.nodes) inputs) plan.nodes) (moments_of plan inputs)
  pub result : AreTuplesOf (schema_in plan.nodes 0 plan.result) (eval plan inputs)

-- so of each plan that keeps the rules, over inputs that are its sources'
abbrev pub PlansFit : Type 0
PlansFit =
    (plan : Plan) (inputs : List Tuples) → IsPlan plan → StatesValues plan → AreInputsOf plan inputs → PlanFits plan inputs
