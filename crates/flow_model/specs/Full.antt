use Rattle.std.specs.Prelude.{ℕ, zero, suc, ◌+◌, ◌-◌, ◌*◌, ◌==◌, nat_lt, List, [], ◌∷◌, ◌++◌, map, filter, find, sum_by, Option}
use Rattle.std.specs.List.{flat_map}
use Rattle.flow_types.specs.Tuples.{Tuple, key_of}
use Rattle.flow_types.specs.Records.{size}
use Rattle.flow_types.specs.Hash.{part}
use Rattle.flow_model.specs.declared.op.Op.{Op}
use Rattle.flow_model.specs.declared.op.Op.TheVariants as op
use Rattle.flow_model.specs.declared.plan.Node.{Node}
use Rattle.flow_model.specs.declared.plan.Plan.{Plan}
use Rattle.flow_model.specs.Env.{Tuples}
use Rattle.flow_model.specs.Algebra.{Env, given, source_numbers, DeltaState, delta_states, Moment, moments_of}
use Rattle.flow_model.specs.Segments.{solution_part}

-- When a solution set is full. The rule is this project's own: by the bytes of its live records, packed.

-- What a worker's solution set needs in a superstep, and what it has, in bytes. Superstep 0 is the first load.
pub record Demand : Type 0 where
  pub node : ℕ
  pub step : ℕ
  pub worker : ℕ
  pub need : ℕ
  pub have : ℕ

-- the numbers below a number, in ascending order
abbrev pub numbers_below : ℕ → List ℕ
numbers_below zero = []
numbers_below (suc n) = numbers_below n ++ n ∷ []

-- the entries whose key is a worker's
abbrev pub own_entries : List ℕ → ℕ → ℕ → Tuples → Tuples
own_entries key workers worker entries = filter (λ t. part (key_of key t) workers == worker) entries

-- the bytes of entries: 8 and the record of each
abbrev pub packed_bytes : Tuples → ℕ
packed_bytes entries = sum_by (λ t. 8 + size t) entries

-- the bytes that a worker's solution set has: those of its segments but one, which holds the heads of the chains
abbrev pub solution_bytes : Plan → ℕ → ℕ → ℕ
solution_bytes plan workers budget = (solution_part plan workers budget - 1) * plan.segment

-- the demand of one worker in one superstep
abbrev pub demand : Plan → ℕ → ℕ → ℕ → List ℕ → ℕ → Tuples → ℕ → Demand
demand plan workers budget number key step entries worker =
    record {
      node = number;
      step = step;
      worker = worker;
      need = packed_bytes (own_entries key workers worker entries);
      have = solution_bytes plan workers budget;
    }

-- the demands of an iteration's states, from a superstep on: by superstep, and then by worker
abbrev pub demands_of_states : Plan → ℕ → ℕ → ℕ → List ℕ → ℕ → List DeltaState → List Demand
demands_of_states plan workers budget number key step [] = []
demands_of_states plan workers budget number key step (s ∷ ss) =
    map (demand plan workers budget number key step s.entries) (numbers_below workers)
    ++ demands_of_states plan workers budget number key (suc step) ss

-- the demands of a node; none where it is no delta iteration
abbrev pub demands_of_op : Plan → ℕ → ℕ → Env → Env → ℕ → Op → List Demand
demands_of_op plan workers budget inputs env number (op.Delta solution workset bind key order merge most delta next) =
    demands_of_states plan workers budget number key 0
    (delta_states inputs plan.nodes env number solution workset key order merge most delta next)
demands_of_op plan workers budget inputs env number _ = []

-- all demands of a plan's run, by node, superstep and worker
abbrev pub demands : Plan → List Tuples → ℕ → ℕ → List Demand
demands plan inputs workers budget =
    flat_map (λ (m : Moment). demands_of_op plan workers budget (given (source_numbers plan.nodes) inputs) m.before m.node.number m.node.op)
    (moments_of plan inputs)

-- the first demand that is above what is there, or none
abbrev pub full : Plan → List Tuples → ℕ → ℕ → Option Demand
full plan inputs workers budget = find (λ (d : Demand). nat_lt d.have d.need) (demands plan inputs workers budget)
