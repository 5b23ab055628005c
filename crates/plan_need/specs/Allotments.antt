use Rattle.std.specs.Prelude.{ℕ}
use Rattle.flow_model.specs.declared.plan.Plan.{Plan}
use Rattle.flow_model.specs.Segments.{share, exchange_part, solution_part, cache_part, work_part}
use Rattle.plan_need.specs.declared.budget.Allot.{Allot}

-- How a budget of segments is divided, all of its numbers together.
abbrev pub allotment : Plan → ℕ → ℕ → Allot
allotment plan workers budget = record {
  workers = workers;
  segment = plan.segment;
  total = budget;
  share = share workers budget;
  exchange = exchange_part workers;
  solution = solution_part plan workers budget;
  cache = cache_part plan workers budget;
  work = work_part plan workers budget;
}
