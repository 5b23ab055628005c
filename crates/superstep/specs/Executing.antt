-- The result of the rows that a worker holds, and the lot that it is taken out in. The rules are this project's own.
use Rattle.std.specs.Prelude.{◌≡◌, ℕ, ◌-◌, ◌^◌, ◌≤◌, List, [], length, min, is_some, Option, Some, None, Result, IsErrOf}
use Rattle.flow_outside.specs.Blocks.{Blocks}
use Rattle.flow_outside.specs.Causes.{Rose}
use Rattle.flow_outside.specs.Told.{IfTold}
use Rattle.flow_outside.specs.declared.failure.StreamFault.{StreamFault}
use Rattle.flow_outside.specs.declared.failure.StreamFault.TheVariants as stream_fault
use Rattle.flow_model.specs.declared.plan.Node.{Node}
use Rattle.flow_model.specs.declared.plan.Plan.{Plan}
use Rattle.flow_model.specs.Algebra.{eval}
use Rattle.flow_model.specs.Env.{Tuples}
use Rattle.flow_model.specs.Rules.{node_at}
use Rattle.flow_model.specs.Segments.{reach}
use Rattle.lot_store.specs.Lots.{LotView, held}
use Rattle.lot_store.specs.Storage.{IsReadyAt}
use Rattle.worker_storage.specs.Storages.{HoldsSome, Storage, view_of, with_lot}
use Rattle.worker_core.specs.Workers.{WorkerView, tuples_in, worker_rows}
use Rattle.superstep.specs.Opening.{worker_sum}
use Rattle.superstep.specs.Outer.{HoldsInputs}
use Rattle.superstep.specs.declared.faults.ExecFault.{ExecFault}
use Rattle.superstep.specs.declared.faults.ExecFault.TheVariants as fault

-- A lot from outside holds no segment and keeps no pages, and takes records over as many pages as a plan's.
pub record IsBare (plan : Plan) (lot : LotView) : Type 0 where
  pub none : held lot ≡ []
  pub room : lot.stored.room ≡ 0
  pub reach : lot.feed.reach ≡ reach plan

-- It stands together with a worker's lots.
pub record LiesBeside {D : Type 0} (told : D → Option Blocks) (plan : Plan) (s : Storage D) (lot : LotView) : Type 0 where
  pub bare : IsBare plan lot
  pub stands : IsReadyAt s.size (with_lot lot (view_of told s))

-- the rows of a node that is there which a lot holds, by what its disk tells
abbrev pub rows_for : Option Blocks → Option Node → LotView → Tuples
rows_for told None lot = []
rows_for told (Some node) lot = tuples_in node.schema told lot

-- the rows of a plan's result that a lot holds
abbrev pub result_in : Plan → Option Blocks → LotView → Tuples
result_in plan told lot = rows_for told (node_at plan.nodes plan.result) lot

-- Where the disk tells, a lot holds rows of the schema of a plan's result.
abbrev pub HoldsResult : Plan → Option Blocks → LotView → Type 0
HoldsResult plan told lot = (node : Node) → node_at plan.nodes plan.result ≡ Some node → IfTold told (HoldsSome node.schema lot)

-- A count is that of some rows, 2^64 - 1 where there are more.
abbrev pub IsCounted : Tuples → (count : ℕ) → Type 0
IsCounted rows count = count ≡ min (length rows) (2 ^ 64 - 1)

-- A worker holds the plan's result of the inputs that it held, and where its disk told, so many rows.
pub record MakesRows {D : Type 0} (told : D → Option Blocks) (plan : Plan) (count : ℕ) (before after : WorkerView D) : Type 0 where
  pub rows : (inputs : List Tuples) → HoldsInputs told plan inputs before → worker_rows told plan.nodes after plan.result ≡ eval plan inputs
  pub counted : IfTold (told before.storage.disk) (λ _. IsCounted (worker_rows told plan.nodes after plan.result) count)

-- A lot that was taken out of a worker is the plan's result of the inputs that the worker held, of so many rows where its disk told.
pub record MakesResult {D : Type 0} (told : D → Option Blocks) (plan : Plan) (count : ℕ) (before : WorkerView D) (disk : D) (lot : LotView) : Type 0 where
  pub holds : HoldsResult plan (told disk) lot
  pub rows : (inputs : List Tuples) → HoldsInputs told plan inputs before → result_in plan (told disk) lot ≡ eval plan inputs
  pub counted : IfTold (told before.storage.disk) (λ _. IsCounted (result_in plan (told disk) lot) count)

-- A disk's count of faults didn't fall, and it tells exactly where it told.
pub record KeepsDisk {D : Type 0} (told : D → Option Blocks) (faults : D → ℕ) (before after : D) : Type 0 where
  pub later : faults before ≤ faults after
  pub tells : is_some (told after) ≡ is_some (told before)

-- What a worker's segments weigh together is the same, and its disk is kept.
pub record KeepsSegments {D : Type 0} (told : D → Option Blocks) (faults : D → ℕ) (before after : Storage D) : Type 0 where
  pub sums : (h : ℕ → ℕ → ℕ) → worker_sum h after ≡ worker_sum h before
  pub disk : KeepsDisk told faults before.disk after.disk

-- what a fault of the first worker's stored rows is as a fault of execution
abbrev pub of_stream : StreamFault → ExecFault
of_stream stream_fault.Spill = fault.Spill 0
of_stream (stream_fault.Damaged block) = fault.Damaged 0 block

-- Why the result wasn't made: `Spill` only where the count of the first worker's disk rose, `Damaged` only where that disk doesn't
-- tell, and `SolutionFull` never, since no plan with a solution set is served.
pub record HasExecCause {T : Type 0} (before now : ℕ) (told : Option Blocks) (answer : Result T ExecFault) : Type 0 where
  pub spill : (worker : ℕ) → IsErrOf answer (fault.Spill worker) → (worker ≡ 0) × Rose before now
  pub damaged : (worker block : ℕ) → IsErrOf answer (fault.Damaged worker block) → (worker ≡ 0) × (told ≡ None)
  pub full : (node step worker need have : ℕ) → IsErrOf answer (fault.SolutionFull node step worker need have) → ⊥
