-- What the steps of an engine's calls do. The rules are this project's own.
use Rattle.std.specs.Prelude.{◌≡◌, ℕ, List, Option, Some, None}
use Rattle.flow_outside.specs.Blocks.{Blocks}
use Rattle.flow_outside.specs.Told.{IfTold}
use Rattle.flow_model.specs.Algebra.{eval}
use Rattle.flow_model.specs.Env.{Tuples}
use Rattle.worker_core.specs.Workers.{IsWorkerOf, StaysBeside, WorkerView}
use Rattle.superstep.specs.EngineCalls.{IsLoaded, KeepsEngine}
use Rattle.superstep.specs.Engines.{EngineView, IsDone, IsEngine, first_disk, result_rows, told_of}
use Rattle.superstep.specs.Executing.{HoldsResult, IsCounted, LiesBeside, result_in}
use Rattle.superstep.specs.Opening.{IsAccounted}

-- the count of faults of a disk that is there
abbrev pub faults_of : {D : Type 0} → (D → ℕ) → Option D → ℕ
faults_of faults None = 0
faults_of faults (Some disk) = faults disk

-- Its worker may end: every segment stands once, in the pool or with the worker, and the lot for the result lies beside the worker's.
pub record MayBeTakenDown {D : Type 0} (told : D → Option Blocks) (e : EngineView D) : Type 0 where
  pub engine : IsEngine e
  pub worker : WorkerView D
  pub there : e.worker ≡ Some worker
  pub sound : IsWorkerOf told e.plan worker
  pub accounted : IsAccounted e.pool worker.storage
  pub beside : LiesBeside told e.plan worker.storage e.place

-- The worker ended, and the lot for the result stays as it lay beside it.
pub record TakesDown {D : Type 0} (told : D → Option Blocks) (before after : EngineView D) : Type 0 where
  pub place : after.place ≡ before.place
  pub stays : (w : WorkerView D) (disk : D) → before.worker ≡ Some w → after.disk ≡ Some disk → StaysBeside told w.storage disk before.place

-- The lot for the result holds what the plan gives of the inputs that were loaded, and where the worker's disk tells, so many rows.
pub record Makes {D : Type 0} (told : D → Option Blocks) (count : ℕ) (before after : EngineView D) : Type 0 where
  pub holds : HoldsResult after.plan (told_of told (first_disk after)) after.place
  pub rows : (inputs : List Tuples) → IsLoaded told inputs before → result_in after.plan (told_of told (first_disk after)) after.place ≡ eval before.plan inputs
  pub counted : IfTold (told_of told (first_disk before)) (λ _. IsCounted (result_in after.plan (told_of told (first_disk after)) after.place) count)

-- The result was read, and lies as it lay.
pub record ReadsResult {D : Type 0} (told : D → Option Blocks) (faults : D → ℕ) (before after : EngineView D) : Type 0 where
  pub stands : IsDone told after
  pub same : result_rows told after ≡ result_rows told before
  pub keeps : KeepsEngine told faults before after
