-- An engine's segments and the worker that has its share of them. The rules are this project's own.
use Rattle.std.specs.Prelude.{◌≡◌, ℕ, ◌+◌, [], ◌∷◌, map, Option}
use Rattle.segment_core.specs.Segments.{PoolView, segment_sum}
use Rattle.segment_core.specs.Ledger.{IsLedger}
use Rattle.flow_outside.specs.Blocks.{Blocks}
use Rattle.flow_model.specs.declared.plan.Plan.{Plan}
use Rattle.flow_model.specs.Rules.{IsPlan}
use Rattle.model_laws.specs.LawsOfPlanFits.{StatesValues}
use Rattle.plan_need.specs.declared.budget.Allot.{Allot}
use Rattle.lot_store.specs.Lots.{held}
use Rattle.lot_store.specs.Storage.{held_sum}
use Rattle.worker_storage.specs.Storages.{Storage}
use Rattle.worker_core.specs.Workers.{IsAllotmentOf, IsSound, WorkerView, worker_rows}
use Rattle.superstep.specs.Outer.{IsServed}

-- A plan is served with an allotment: it keeps the rules, all of its nodes are served, and the numbers are those of a budget that is
-- enough for it and its one worker.
pub record IsServing (plan : Plan) (allot : Allot) : Type 0 where
  pub rules : IsPlan plan
  pub values : StatesValues plan
  pub served : IsServed plan
  pub allotted : IsAllotmentOf plan allot
  pub alone : allot.workers ≡ 1

-- what a worker's segments weigh together: those of its purse and those of its lots
abbrev pub worker_sum : {D : Type 0} → (ℕ → ℕ → ℕ) → Storage D → ℕ
worker_sum h s = segment_sum h s.purse.pages + held_sum h s.lots

-- Each of a pool's segments stands exactly once among those that are free, those of a worker's purse and those of its lots.
abbrev pub IsAccounted : {D : Type 0} → PoolView → Storage D → Type 0
IsAccounted pool s = IsLedger pool.total pool.size (pool.free ∷ s.purse.pages ∷ map held s.lots)

-- All of a pool's segments are free.
abbrev pub IsAllFree : PoolView → Type 0
IsAllFree pool = IsLedger pool.total pool.size (pool.free ∷ [])

-- A pool was opened and a worker with its share of it: the worker holds no rows, and the disk is the one that was given.
pub record IsCrew {D : Type 0} (told : D → Option Blocks) (plan : Plan) (allot : Allot) (given : D) (pool : PoolView) (w : WorkerView D) : Type 0 where
  pub total : pool.total ≡ allot.total
  pub size : pool.size ≡ plan.segment
  pub accounted : IsAccounted pool w.storage
  pub me : w.me ≡ 0
  pub disk : w.storage.disk ≡ given
  pub sound : IsSound told plan w
  pub rows : (n : ℕ) → worker_rows told plan.nodes w n ≡ []
