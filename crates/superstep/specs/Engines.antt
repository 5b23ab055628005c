-- An engine as contracts see it, and how it stands between its calls. The rules are this project's own.
use Rattle.std.specs.Prelude.{◌≡◌, ℕ, List, [], ◌++◌, reverse, option_to_list, Option, Some, None}
use Rattle.segment_core.specs.Segments.{PoolView}
use Rattle.flow_outside.specs.Blocks.{Blocks}
use Rattle.flow_model.specs.declared.plan.Plan.{Plan}
use Rattle.flow_model.specs.Env.{Tuples}
use Rattle.flow_model.specs.Segments.{reach}
use Rattle.plan_need.specs.declared.budget.Allot.{Allot}
use Rattle.lot_store.specs.Lots.{LotView, empty}
use Rattle.worker_core.specs.Workers.{IsSound, WorkerView, worker_rows}
use Rattle.superstep.specs.Emitting.{LiesAlone}
use Rattle.superstep.specs.Executing.{HoldsResult, result_in}
use Rattle.superstep.specs.Opening.{IsAccounted, IsAllFree, IsServing}
use Rattle.superstep.specs.declared.phase.Phase.{Phase}
use Rattle.superstep.specs.declared.phase.Phase.TheVariants as phase

-- An engine is seen as its plan and its allotment, where it stands, its pool, its worker while there is one, the lot for the result, the
-- first disk once the worker has ended, and the other disks, the last one first.
pub record EngineView (D : Type 0) : Type 0 where
  pub plan : Plan
  pub allot : Allot
  pub phase : Phase
  pub pool : PoolView
  pub worker : Option (WorkerView D)
  pub place : LotView
  pub disk : Option D
  pub others : List D

-- the first disk, which the worker has while there is one
abbrev pub first_of : {D : Type 0} → Option (WorkerView D) → Option D → Option D
first_of None home = home
first_of (Some w) home = Some w.storage.disk

abbrev pub first_disk : {D : Type 0} → EngineView D → Option D
first_disk e = first_of e.worker e.disk

-- all disks, in their order
abbrev pub disks_of : {D : Type 0} → EngineView D → List D
disks_of e = option_to_list (first_disk e) ++ reverse e.others

-- what a disk tells that is there
abbrev pub told_of : {D : Type 0} → (D → Option Blocks) → Option D → Option Blocks
told_of told None = None
told_of told (Some disk) = told disk

-- the rows that are held of a number, while there is a worker
abbrev pub rows_with : {D : Type 0} → (D → Option Blocks) → Plan → Option (WorkerView D) → ℕ → Tuples
rows_with told plan None n = []
rows_with told plan (Some w) n = worker_rows told plan.nodes w n

abbrev pub loaded_rows : {D : Type 0} → (D → Option Blocks) → EngineView D → ℕ → Tuples
loaded_rows told e n = rows_with told e.plan e.worker n

-- the rows of the result, once it is there
abbrev pub result_rows : {D : Type 0} → (D → Option Blocks) → EngineView D → Tuples
result_rows told e = result_in e.plan (told_of told e.disk) e.place

-- What is always so: the plan is served, and segments have its size.
pub record IsEngine {D : Type 0} (e : EngineView D) : Type 0 where
  pub serving : IsServing e.plan e.allot
  pub size : e.pool.size ≡ e.plan.segment

-- A worker is there, which holds rows of the nodes' schemas, and every segment stands once, in the pool or with the worker. The lot for
-- the result holds nothing.
pub record IsStaffed {D : Type 0} (told : D → Option Blocks) (e : EngineView D) (w : WorkerView D) : Type 0 where
  pub there : e.worker ≡ Some w
  pub sound : IsSound told e.plan w
  pub accounted : IsAccounted e.pool w.storage
  pub place : e.place ≡ empty 0 (reach e.plan)

-- Rows may be loaded, and the result made.
pub record IsReady {D : Type 0} (told : D → Option Blocks) (e : EngineView D) : Type 0 where
  pub engine : IsEngine e
  pub phase : e.phase ≡ phase.Ready
  pub worker : WorkerView D
  pub staffed : IsStaffed told e worker

-- The worker has ended: every segment is free, and the lot for the result lies alone on the first disk.
pub record IsDown {D : Type 0} (told : D → Option Blocks) (e : EngineView D) : Type 0 where
  pub engine : IsEngine e
  pub gone : e.worker ≡ None
  pub disk : D
  pub home : e.disk ≡ Some disk
  pub free : IsAllFree e.pool
  pub lies : LiesAlone e.plan (told disk) e.place

-- The result is there.
pub record IsDone {D : Type 0} (told : D → Option Blocks) (e : EngineView D) : Type 0 where
  pub down : IsDown told e
  pub phase : e.phase ≡ phase.Done
  pub holds : HoldsResult e.plan (told_of told e.disk) e.place

-- A call ended with a fault.
pub record HasFailed {D : Type 0} (told : D → Option Blocks) (e : EngineView D) : Type 0 where
  pub down : IsDown told e
  pub phase : e.phase ≡ phase.Failed
