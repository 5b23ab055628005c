use Rattle.std.specs.Prelude.{ℕ, suc, Bool, nat_lt, List, [], ◌∷◌, map, find, Option, None}
use Rattle.std.specs.Option.{option_or}
use Rattle.flow_model.specs.declared.op.Op.{Op}
use Rattle.flow_model.specs.declared.op.Op.TheVariants as op
use Rattle.flow_model.specs.declared.plan.Node.{Node}
use Rattle.flow_model.specs.Env.{Tuples}
use Rattle.flow_model.specs.Algebra.{Env, DeltaState, delta_states, Moment, moments, nodes_of}
use Rattle.flow_model.specs.Full.{Demand, numbers_below, own_entries, packed_bytes}
use Rattle.plain_full.specs.declared.demand.Demand as code

-- The first demand that is above what is there, as the program looks for it: where one is found, what comes behind it
-- is left out. `have` is what each worker has, in bytes.

-- a demand of the program as the definition's
abbrev pub seen : code.Demand → Demand
seen d = record { node = d.node; step = d.step; worker = d.worker; need = d.need; have = d.have }

-- a demand that is above what is there
abbrev pub is_above : Demand → Bool
is_above d = nat_lt d.have d.need

-- the demand of one worker, where so much is there
abbrev pub demand_at : ℕ → ℕ → ℕ → List ℕ → ℕ → Tuples → ℕ → Demand
demand_at workers have number key step entries worker =
    record {
      node = number;
      step = step;
      worker = worker;
      need = packed_bytes (own_entries key workers worker entries);
      have = have;
    }

-- the first demand of a solution's entries, by worker
abbrev pub first_of_state : ℕ → ℕ → ℕ → List ℕ → ℕ → Tuples → Option Demand
first_of_state workers have number key step entries =
    find is_above (map (demand_at workers have number key step entries) (numbers_below workers))

-- the first demand of states, from a superstep on
abbrev pub first_of_states : ℕ → ℕ → ℕ → List ℕ → ℕ → List DeltaState → Option Demand
first_of_states workers have number key step [] = None
first_of_states workers have number key step (s ∷ ss) =
    option_or (first_of_state workers have number key step s.entries) (first_of_states workers have number key (suc step) ss)

-- the first demand of a node; none where it is no delta iteration
abbrev pub first_of_op : ℕ → ℕ → Env → List Node → Env → ℕ → Op → Option Demand
first_of_op workers have inputs nodes env number (op.Delta solution workset bind key order merge most delta next) =
    first_of_states workers have number key 0 (delta_states inputs nodes env number solution workset key order merge most delta next)
first_of_op workers have inputs nodes env number _ = None

-- the first demand of moments
abbrev pub first_of_moments : ℕ → ℕ → Env → List Node → List Moment → Option Demand
first_of_moments workers have inputs nodes [] = None
first_of_moments workers have inputs nodes (m ∷ ms) =
    option_or (first_of_op workers have inputs nodes m.before m.node.number m.node.op) (first_of_moments workers have inputs nodes ms)

-- the first demand of those of some nodes that stand in the outer list, after what was evaluated before them
abbrev pub first_of_nodes : ℕ → ℕ → Env → List Node → Env → List Node → Option Demand
first_of_nodes workers have inputs all env nodes = first_of_moments workers have inputs all (moments inputs all env (nodes_of 0 nodes))
