use Rattle.std.specs.Prelude.{ℕ, Bool, true, false, not, List, [], ◌∷◌, ◌++◌, ◌==◌, if◌then◌else◌, map, filter, fold, find, drop, length, sum_by, Option, Some, None}
use Rattle.std.specs.List.{flat_map}
use Rattle.flow_types.specs.declared.order_item.OrderItem.{OrderItem}
use Rattle.flow_model.specs.declared.op.Op.{Op}
use Rattle.flow_model.specs.declared.op.Op.TheVariants as op
use Rattle.flow_model.specs.declared.op.MergeRule.{MergeRule}
use Rattle.flow_model.specs.declared.plan.Node.{Node}
use Rattle.flow_model.specs.declared.plan.Plan.{Plan}
use Rattle.flow_model.specs.declared.made.Made.{Made}
use Rattle.flow_model.specs.Env.{Tuples}
use Rattle.flow_model.specs.Rows.{map_rows, filter_rows, flat_map_rows, distinct_rows, group_rows, top_rows, join_rows, cogroup_rows, is_nothing}
use Rattle.flow_model.specs.Solutions.{Solution, no_solution, chosen, merged, probe_rows}
use Rattle.flow_model.specs.States.{states, last_state}

-- The dataset algebra, as in Flink's DataSet API: what a plan gives of its inputs. Nodes are evaluated in document
-- order. Two iterations, with their bodies: bulk as in the DataSet API, delta as Ewen and others describe it.

-- The rows of the nodes that were evaluated, each under its node's number, in document order.
abbrev pub Env : Type 0
Env = List Made

-- the rows under a number; none where nothing is
abbrev pub rows_at : Env → ℕ → Tuples
rows_at [] n = []
rows_at (e ∷ env) n = if e.number == n then e.rows else rows_at env n

-- rows put under a number, after what was evaluated
abbrev pub and_rows : Env → ℕ → Tuples → Env
and_rows env n rows = env ++ record { number = n; rows = rows } ∷ []

-- a node that takes an input
abbrev pub is_source : Op → Bool
is_source (op.Source fields delimiter) = true
is_source _ = false

-- the numbers of the sources, in document order
abbrev pub source_numbers : List Node → List ℕ
source_numbers nodes = map (λ (node : Node). node.number) (filter (λ (node : Node). is_source node.op) nodes)

-- the inputs under their sources' numbers: the first list is the first source's, and so on
abbrev pub given : List ℕ → List Tuples → Env
given [] lists = []
given (n ∷ numbers) [] = []
given (n ∷ numbers) (rows ∷ lists) = record { number = n; rows = rows } ∷ given numbers lists

-- the nodes of the outer list, whose home is 0, or of one iteration's body
abbrev pub nodes_of : ℕ → List Node → List Node
nodes_of home nodes = filter (λ (node : Node). node.home == home) nodes

-- the rows of a node that is no iteration: of the inputs, of the solution as it stood when the superstep began, and of
-- what was evaluated before it
abbrev pub plain_rows : Env → Solution → Env → ℕ → Op → Tuples
plain_rows inputs held env number (op.Source fields delimiter) = rows_at inputs number
plain_rows inputs held env number (op.Map input columns) = map_rows columns (rows_at env input)
plain_rows inputs held env number (op.Filter input test) = filter_rows test (rows_at env input)
plain_rows inputs held env number (op.FlatMap input rows) = flat_map_rows rows (rows_at env input)
plain_rows inputs held env number (op.Union names) = flat_map (rows_at env) names
plain_rows inputs held env number (op.Distinct input) = distinct_rows (rows_at env input)
plain_rows inputs held env number (op.Group input key aggs combine) = group_rows key aggs (rows_at env input)
plain_rows inputs held env number (op.Top input key order count) = top_rows key order count (rows_at env input)
plain_rows inputs held env number (op.Join left right left_key right_key columns kind left_default right_default) =
    join_rows kind left_key right_key columns left_default right_default (rows_at env left) (rows_at env right)
plain_rows inputs held env number (op.Cogroup left right left_key right_key left_aggs right_aggs) =
    cogroup_rows left_key right_key left_aggs right_aggs (rows_at env left) (rows_at env right)
plain_rows inputs held env number (op.Bulk init bind most next until) = []
plain_rows inputs held env number (op.Delta solution workset bind key order merge most delta next) = []
plain_rows inputs held env number (op.Probe input key columns) = probe_rows held key columns (rows_at env input)

-- a node of a body evaluated after those before it
abbrev pub body_step : Env → Solution → Env → Node → Env
body_step inputs held env node = and_rows env node.number (plain_rows inputs held env node.number node.op)

-- one superstep: the body evaluated with the iteration's number standing for the state's rows
abbrev pub superstep : Env → List Node → Solution → Env → ℕ → Tuples → Env
superstep inputs nodes held env number rows = fold (body_step inputs held) (and_rows env number rows) (nodes_of number nodes)

-- The state of a bulk iteration: its rows, and whether the superstep that made it was the last one.
pub record BulkState : Type 0 where
  pub rows : Tuples
  pub ended : Bool

-- whether a superstep's termination rows are named and there are none
abbrev pub has_ended : Env → Option ℕ → Bool
has_ended env None = false
has_ended env (Some until) = is_nothing (rows_at env until)

-- what a superstep makes of a state of a bulk iteration
abbrev pub bulk_next : Env → List Node → Env → ℕ → ℕ → Option ℕ → BulkState → BulkState
bulk_next inputs nodes env number next until s =
    record {
      rows = rows_at (superstep inputs nodes no_solution env number s.rows) next;
      ended = has_ended (superstep inputs nodes no_solution env number s.rows) until;
    }

-- the first state of a bulk iteration
abbrev pub bulk_start : Env → ℕ → BulkState
bulk_start env init = record { rows = rows_at env init; ended = false }

-- the states of a bulk iteration: it ends after `most` supersteps, or after one whose termination rows are none
abbrev pub bulk_states : Env → List Node → Env → ℕ → ℕ → ℕ → ℕ → Option ℕ → List BulkState
bulk_states inputs nodes env number init most next until =
    states (λ (s : BulkState). not s.ended) (bulk_next inputs nodes env number next until) most (bulk_start env init)

-- The state of a delta iteration: the solution's entries, and the workset.
pub record DeltaState : Type 0 where
  pub entries : Tuples
  pub workset : Tuples

-- what a superstep makes of a state of a delta iteration
abbrev pub delta_next : Env → List Node → Env → ℕ → List ℕ → List OrderItem → MergeRule → ℕ → ℕ → DeltaState → DeltaState
delta_next inputs nodes env number key order merge delta next s =
    record {
      entries = merged key order merge s.entries
          (rows_at (superstep inputs nodes (record { key = key; entries = s.entries }) env number s.workset) delta);
      workset = rows_at (superstep inputs nodes (record { key = key; entries = s.entries }) env number s.workset) next;
    }

-- the first state of a delta iteration: for each key the solution's row with the greatest rank, and the workset
abbrev pub delta_start : Env → ℕ → ℕ → List ℕ → List OrderItem → DeltaState
delta_start env solution workset key order =
    record { entries = chosen key order (rows_at env solution); workset = rows_at env workset }

-- the states of a delta iteration: it ends where the workset is empty, or after `most` supersteps
abbrev pub delta_states : Env → List Node → Env → ℕ → ℕ → ℕ → List ℕ → List OrderItem → MergeRule → ℕ → ℕ → ℕ → List DeltaState
delta_states inputs nodes env number solution workset key order merge most delta next =
    states (λ (s : DeltaState). not (is_nothing s.workset))
    (delta_next inputs nodes env number key order merge delta next) most (delta_start env solution workset key order)

-- the rows of a node of the outer list; an iteration gives the rows of its last state
abbrev pub node_rows : Env → List Node → Env → ℕ → Op → Tuples
node_rows inputs nodes env number (op.Bulk init bind most next until) =
    (last_state (bulk_start env init) (bulk_states inputs nodes env number init most next until)).rows
node_rows inputs nodes env number (op.Delta solution workset bind key order merge most delta next) =
    (last_state (delta_start env solution workset key order)
    (delta_states inputs nodes env number solution workset key order merge most delta next)).entries
node_rows inputs nodes env number (op.Source fields delimiter) = plain_rows inputs no_solution env number (op.Source fields delimiter)
node_rows inputs nodes env number (op.Map input columns) = plain_rows inputs no_solution env number (op.Map input columns)
node_rows inputs nodes env number (op.Filter input test) = plain_rows inputs no_solution env number (op.Filter input test)
node_rows inputs nodes env number (op.FlatMap input rows) = plain_rows inputs no_solution env number (op.FlatMap input rows)
node_rows inputs nodes env number (op.Union names) = plain_rows inputs no_solution env number (op.Union names)
node_rows inputs nodes env number (op.Distinct input) = plain_rows inputs no_solution env number (op.Distinct input)
node_rows inputs nodes env number (op.Group input key aggs combine) = plain_rows inputs no_solution env number (op.Group input key aggs combine)
node_rows inputs nodes env number (op.Top input key order count) = plain_rows inputs no_solution env number (op.Top input key order count)
node_rows inputs nodes env number (op.Join left right left_key right_key columns kind left_default right_default) =
    plain_rows inputs no_solution env number (op.Join left right left_key right_key columns kind left_default right_default)
node_rows inputs nodes env number (op.Cogroup left right left_key right_key left_aggs right_aggs) =
    plain_rows inputs no_solution env number (op.Cogroup left right left_key right_key left_aggs right_aggs)
node_rows inputs nodes env number (op.Probe input key columns) = plain_rows inputs no_solution env number (op.Probe input key columns)

-- a node of the outer list evaluated after those before it
abbrev pub outer_step : Env → List Node → Env → Node → Env
outer_step inputs nodes env node = and_rows env node.number (node_rows inputs nodes env node.number node.op)

-- the rows of a plan's result
abbrev pub eval : Plan → List Tuples → Tuples
eval plan inputs =
    rows_at (fold (outer_step (given (source_numbers plan.nodes) inputs) plan.nodes) [] (nodes_of 0 plan.nodes)) plan.result

-- A node of the outer list, and what was evaluated before it.
pub record Moment : Type 0 where
  pub before : Env
  pub node : Node

-- the nodes of the outer list, each with what was evaluated before it
abbrev pub moments : Env → List Node → Env → List Node → List Moment
moments inputs all env [] = []
moments inputs all env (node ∷ nodes) =
    record { before = env; node = node } ∷ moments inputs all (outer_step inputs all env node) nodes

-- a plan's moments
abbrev pub moments_of : Plan → List Tuples → List Moment
moments_of plan inputs = moments (given (source_numbers plan.nodes) inputs) plan.nodes [] (nodes_of 0 plan.nodes)

-- how many supersteps a node takes; 0 where it is no iteration
abbrev pub turns : Env → List Node → Env → ℕ → Op → ℕ
turns inputs nodes env number (op.Bulk init bind most next until) =
    length (drop 1 (bulk_states inputs nodes env number init most next until))
turns inputs nodes env number (op.Delta solution workset bind key order merge most delta next) =
    length (drop 1 (delta_states inputs nodes env number solution workset key order merge most delta next))
turns inputs nodes env number _ = 0

-- the supersteps of all of a plan's iterations
abbrev pub supersteps : Plan → List Tuples → ℕ
supersteps plan inputs =
    sum_by (λ (m : Moment). turns (given (source_numbers plan.nodes) inputs) plan.nodes m.before m.node.number m.node.op)
    (moments_of plan inputs)

-- the first source of a plan
abbrev pub first_source : Plan → Option Node
first_source plan = find (λ (node : Node). is_source node.op) plan.nodes

-- the byte between a source's fields; a comma for another op
abbrev pub delimiter_of : Op → ℕ
delimiter_of (op.Source fields delimiter) = delimiter
delimiter_of _ = 44
