-- A result is read out of the lot that it lies in. The rules are this project's own.
use Rattle.std.specs.Prelude.{◌≡◌, ℕ, ◌≤◌, List, [], ◌∷◌, ◌++◌, Option, Some, None, Ok, Err, Result, IsErrOf, IfSome}
use Rattle.segment_core.specs.Segments.{PoolView}
use Rattle.flow_outside.specs.Blocks.{Blocks}
use Rattle.flow_outside.specs.Causes.{Rose}
use Rattle.flow_outside.specs.Told.{Appends, AppendsPrefix, AppendsProperPrefix, IfTold}
use Rattle.flow_outside.specs.declared.failure.StreamFault.{StreamFault}
use Rattle.flow_outside.specs.declared.failure.StreamFault.TheVariants as stream_fault
use Rattle.flow_types.specs.Records.{tuple_of}
use Rattle.flow_types.specs.Types.{Fields}
use Rattle.flow_model.specs.declared.plan.Plan.{Plan}
use Rattle.flow_model.specs.Env.{Tuples}
use Rattle.lot_store.specs.Lots.{LotView}
use Rattle.lot_store.specs.Storage.{Stand}
use Rattle.row_pipe.specs.Pipes.{LeavesTuples}
use Rattle.superstep.specs.Executing.{HoldsResult, IsBare, KeepsDisk, result_in}
use Rattle.superstep.specs.Opening.{IsAllFree}
use Rattle.superstep.specs.declared.faults.EmitFault.{EmitFault}
use Rattle.superstep.specs.declared.faults.EmitFault.TheVariants as fault

-- A lot lies on a disk alone: all of it stands there, and no segment is its own.
pub record LiesAlone (plan : Plan) (told : Option Blocks) (lot : LotView) : Type 0 where
  pub bare : IsBare plan lot
  pub stands : IfTold told (Stand plan.segment [] (lot ∷ []))

-- By what is told, these tuples of a schema are left to be read of a lot. Of a disk that doesn't tell none are known.
abbrev pub IsLeftOf : Fields → LotView → Option Blocks → Tuples → Type 0
IsLeftOf fields lot None tuples = ⊥
IsLeftOf fields lot (Some blocks) tuples = LeavesTuples fields blocks lot tuples

-- Whatever tuples were left of a lot, some are rows now, and the others are left.
pub record Collects (fields : Fields) (lot : LotView) (told : Option Blocks) (rows tuples : Tuples) : Type 0 where
  pub left : Tuples
  pub all : tuples ≡ rows ++ left
  pub behind : IsLeftOf fields lot told left

-- The row that is shown was added to some.
abbrev pub AddsShown : Fields → Option (List ℕ) → (old new : Tuples) → Type 0
AddsShown fields shown old new = IfSome shown (λ bytes. new ≡ old ++ tuple_of fields bytes ∷ [])

-- The lot of a plan's result lies alone as it did, with the same rows, its disk is kept, and all segments are free.
pub record KeepsPlace {D : Type 0} (told : D → Option Blocks) (faults : D → ℕ) (plan : Plan) (before after : D) (lot lot_now : LotView) (pool pool_now : PoolView) : Type 0 where
  pub alone : LiesAlone plan (told after) lot_now
  pub holds : HoldsResult plan (told after) lot_now
  pub same : result_in plan (told after) lot_now ≡ result_in plan (told before) lot
  pub disk : KeepsDisk told faults before after
  pub total : pool_now.total ≡ pool.total
  pub size : pool_now.size ≡ pool.size
  pub free : IsAllFree pool_now

-- what a fault of the first worker's stored rows is as a fault of printing
abbrev pub of_stream : StreamFault → EmitFault
of_stream stream_fault.Spill = fault.Spill 0
of_stream (stream_fault.Damaged block) = fault.Damaged 0 block

-- Why a result wasn't read: `Spill` only where the count of the first worker's disk rose, `Damaged` only over a disk that doesn't tell,
-- with the block that was read last. No output is written here.
pub record HasReadingCause {T : Type 0} (before now : ℕ) (told : Option Blocks) (lot : LotView) (answer : Result T EmitFault) : Type 0 where
  pub later : before ≤ now
  pub spill : (worker : ℕ) → IsErrOf answer (fault.Spill worker) → (worker ≡ 0) × Rose before now
  pub damaged : (worker block : ℕ) → IsErrOf answer (fault.Damaged worker block) → (worker ≡ 0) × (block ≡ lot.read_last) × (told ≡ None)
  pub write : IsErrOf answer fault.Write → ⊥

-- what an output has got of a text, by the answer: all of it, a proper prefix where the output failed, a prefix for want of memory, and
-- nothing after a fault of a disk
abbrev pub Prints : {T : Type 0} → Result T EmitFault → (old new : Option (List ℕ)) → (text : List ℕ) → Type 0
Prints (Ok done) old new text = Appends old new text
Prints (Err fault.Memory) old new text = AppendsPrefix old new text
Prints (Err (fault.Spill worker)) old new text = new ≡ old
Prints (Err (fault.Damaged worker block)) old new text = new ≡ old
Prints (Err fault.Write) old new text = AppendsProperPrefix old new text
