use Rattle.std.specs.Prelude.{ℕ, ◌+◌, ◌-◌, ◌*◌, ◌/◌, ◌==◌, Bool, true, false, if◌then◌else◌, max, List, fold}
use Rattle.std.specs.Int.{div_ceil}
use Rattle.std.specs.List.{list_any}
use Rattle.flow_types.specs.Types.{widest}
use Rattle.flow_model.specs.declared.op.Op.{Op}
use Rattle.flow_model.specs.declared.op.Op.TheVariants as op
use Rattle.flow_model.specs.declared.plan.Node.{Node}
use Rattle.flow_model.specs.declared.plan.Plan.{Plan}

-- How many segments a plan needs, and how a budget is divided. The numbers are this project's own.

-- the bytes of the widest record of a plan's nodes; a bind name has the schema of one of them
abbrev pub widest_record : Plan → ℕ
widest_record plan = fold (λ most (node : Node). max most (widest node.schema)) 0 plan.nodes

-- the bytes of a page that hold records: a segment's, less 16 of header
abbrev pub page_bytes : Plan → ℕ
page_bytes plan = plan.segment - 16

-- the most pages that a record behind its length of 4 bytes can touch
abbrev pub reach : Plan → ℕ
reach plan = div_ceil (widest_record plan + 4) (page_bytes plan) + 1

-- a delta iteration
abbrev pub is_delta : Op → Bool
is_delta (op.Delta solution workset bind key order merge most delta next) = true
is_delta _ = false

-- a plan has a delta iteration
abbrev pub has_delta : List Node → Bool
has_delta nodes = list_any (λ (node : Node). is_delta node.op) nodes

-- the segments of a worker's exchange: an out page and a spare for each other worker, and one in hand; none where there
-- is one worker
abbrev pub exchange_part : ℕ → ℕ
exchange_part workers = if workers == 1 then 0 else 2 * (workers - 1) + 1

-- the least segments of a worker's work
abbrev pub work_minimum : Plan → ℕ
work_minimum plan = 8 + 4 * reach plan

-- the least segments of a worker's solution set; none where the plan has no delta iteration
abbrev pub solution_minimum : Plan → ℕ
solution_minimum plan = if has_delta plan.nodes then 1 + reach plan else 0

-- the least segments of one worker
abbrev pub worker_minimum : Plan → ℕ → ℕ
worker_minimum plan workers = exchange_part workers + work_minimum plan + solution_minimum plan

-- the least segments of a plan
abbrev pub minimum : Plan → ℕ → ℕ
minimum plan workers = workers * worker_minimum plan workers

-- each worker's segments of a budget; the few that no share holds stay in the pool
abbrev pub share : ℕ → ℕ → ℕ
share workers budget = budget / workers

-- a worker's segments above its least
abbrev pub extra : Plan → ℕ → ℕ → ℕ
extra plan workers budget = share workers budget - worker_minimum plan workers

-- a worker's segments for its solution set: a third of the extra ones goes to it
abbrev pub solution_part : Plan → ℕ → ℕ → ℕ
solution_part plan workers budget = if has_delta plan.nodes then solution_minimum plan + extra plan workers budget / 3 else 0

-- a worker's segments that keep datasets: a third of the extra ones
abbrev pub cache_part : Plan → ℕ → ℕ → ℕ
cache_part plan workers budget = extra plan workers budget / 3

-- a worker's segments for its work: all others
abbrev pub work_part : Plan → ℕ → ℕ → ℕ
work_part plan workers budget =
    share workers budget - exchange_part workers - solution_part plan workers budget - cache_part plan workers budget
