use Rattle.std.specs.Prelude.{◌≡◌, ℕ, List, [], Option}
use Rattle.flow_types.specs.declared.order_item.OrderItem.{OrderItem}
use Rattle.flow_model.specs.declared.op.MergeRule.{MergeRule}
use Rattle.flow_model.specs.declared.op.Op.{Op}
use Rattle.flow_model.specs.declared.op.Op.TheVariants as op
use Rattle.flow_model.specs.declared.plan.Node.{Node}
use Rattle.flow_model.specs.Env.{Tuples}
use Rattle.flow_model.specs.States.{last_state}
use Rattle.flow_model.specs.Algebra.{Env, bulk_start, bulk_states, delta_start, delta_states}

-- The parts of the algebra that are iterations.

-- An op is the delta iteration of these parts, under some bind name.
pub record SaysOf (o : Op) (solution workset : ℕ) (key : List ℕ) (order : List OrderItem) (merge : MergeRule) (most delta next : ℕ) : Type 0 where
  pub bind : List ℕ
  pub is : o ≡ op.Delta solution workset bind key order merge most delta next

-- the rows of a bulk iteration's last state
abbrev pub bulk_rows : Env → List Node → Env → ℕ → ℕ → ℕ → ℕ → Option ℕ → Tuples
bulk_rows inputs nodes env number init most next until =
    (last_state (bulk_start env init) (bulk_states inputs nodes env number init most next until)).rows

-- the entries of a delta iteration's last solution
abbrev pub delta_rows : Env → List Node → Env → ℕ → ℕ → ℕ → List ℕ → List OrderItem → MergeRule → ℕ → ℕ → ℕ → Tuples
delta_rows inputs nodes env number solution workset key order merge most delta next =
    (last_state (delta_start env solution workset key order)
    (delta_states inputs nodes env number solution workset key order merge most delta next)).entries

-- the rows of a node that is a bulk iteration; none of another
abbrev pub bulk_node_rows : Env → List Node → Env → ℕ → Op → Tuples
bulk_node_rows inputs nodes env number (op.Bulk init bind most next until) = bulk_rows inputs nodes env number init most next until
bulk_node_rows inputs nodes env number _ = []

-- the rows of a node that is a delta iteration; none of another
abbrev pub delta_node_rows : Env → List Node → Env → ℕ → Op → Tuples
delta_node_rows inputs nodes env number (op.Delta solution workset bind key order merge most delta next) =
    delta_rows inputs nodes env number solution workset key order merge most delta next
delta_node_rows inputs nodes env number _ = []
