-- What the calls of an engine do and keep. The rules are this project's own.
use Rattle.std.specs.Prelude.{◌≡◌, ◌≢◌, ◌⊎◌, ℕ, List, [], ◌∷◌, ◌++◌, ◌≤◌, length, reverse, Option, Some, None, Result, IsErrOf}
use Rattle.flow_outside.specs.Blocks.{Blocks}
use Rattle.flow_outside.specs.Causes.{Rose}
use Rattle.flow_outside.specs.Told.{IfTold}
use Rattle.flow_types.specs.Tuples.{Tuple}
use Rattle.flow_model.specs.declared.plan.Node.{Node}
use Rattle.flow_model.specs.declared.plan.Plan.{Plan}
use Rattle.flow_model.specs.Algebra.{eval, given, rows_at, source_numbers, supersteps}
use Rattle.flow_model.specs.Env.{Tuples}
use Rattle.flow_model.specs.Rules.{node_at}
use Rattle.lot_store.specs.Lots.{LotView}
use Rattle.plan_need.specs.declared.budget.Allot.{Allot}
use Rattle.delim_io.specs.ResultText.{text_of}
use Rattle.superstep.specs.Both.{Both}
use Rattle.superstep.specs.Emitting.{Prints}
use Rattle.superstep.specs.Engines.{EngineView, IsDown, IsReady, disks_of, first_disk, loaded_rows, result_rows, told_of}
use Rattle.superstep.specs.Executing.{IsCounted, KeepsDisk}
use Rattle.superstep.specs.Loading.{rows_of_input}
use Rattle.superstep.specs.declared.faults.EmitFault.{EmitFault}
use Rattle.superstep.specs.declared.faults.EmitFault.TheVariants as fault
use Rattle.superstep.specs.declared.receipt.Receipt.{Receipt}

-- What every call of an engine keeps, whatever it answers: the plan, the allotment, the number and the size of the segments, and all
-- disks but the first, whose count of faults doesn't fall and which tells exactly where it told.
pub record KeepsEngine {D : Type 0} (told : D → Option Blocks) (faults : D → ℕ) (before after : EngineView D) : Type 0 where
  pub plan : after.plan ≡ before.plan
  pub allot : after.allot ≡ before.allot
  pub total : after.pool.total ≡ before.pool.total
  pub size : after.pool.size ≡ before.pool.size
  pub others : after.others ≡ before.others
  pub first : Both (KeepsDisk told faults) (first_disk before) (first_disk after)

-- An engine was opened: it has the plan, the allotment, as many segments as that says, and the disks, and holds no rows.
pub record IsOpened {D : Type 0} (told : D → Option Blocks) (given_plan : Plan) (given_allot : Allot) (given_disks : List D) (e : EngineView D) : Type 0 where
  pub plan : e.plan ≡ given_plan
  pub allot : e.allot ≡ given_allot
  pub total : e.pool.total ≡ given_allot.total
  pub disks : disks_of e ≡ given_disks
  pub rows : (n : ℕ) → loaded_rows told e n ≡ []

-- A source's rows were loaded, of an input with these bytes: they stand behind those that were held of it, what is held of each other
-- number is the same, and the count is theirs. Rows are known where the first disk tells.
pub record Loads {D : Type 0} (told : D → Option Blocks) (source many : ℕ) (before after : EngineView D) (bytes : List ℕ) : Type 0 where
  pub node : Node
  pub found : node_at before.plan.nodes source ≡ Some node
  pub rows : List Tuple
  pub read : rows_of_input node bytes ≡ Some rows
  pub count : many ≡ length rows
  pub stored : IfTold (told_of told (first_disk before)) (λ _. loaded_rows told after source ≡ loaded_rows told before source ++ rows)
  pub others : IfTold (told_of told (first_disk before)) (λ _. (n : ℕ) → n ≢ source → loaded_rows told after n ≡ loaded_rows told before n)

-- An engine holds the inputs of a plan under their sources' numbers, and no rows of another node.
abbrev pub IsLoaded : {D : Type 0} → (D → Option Blocks) → List Tuples → EngineView D → Type 0
IsLoaded told inputs e = (n : ℕ) → loaded_rows told e n ≡ rows_at (given (source_numbers e.plan.nodes) inputs) n

-- The result was made: it is the plan's of the inputs that were loaded, and the receipt has the number of its rows, where the first disk
-- tells, that of the supersteps, and all segments free.
pub record Executes {D : Type 0} (told : D → Option Blocks) (before after : EngineView D) (receipt : Receipt) : Type 0 where
  pub rows : (inputs : List Tuples) → IsLoaded told inputs before → result_rows told after ≡ eval before.plan inputs
  pub counted : IfTold (told_of told (first_disk before)) (λ _. IsCounted (result_rows told after) receipt.rows)
  pub turns : (inputs : List Tuples) → receipt.supersteps ≡ supersteps before.plan inputs
  pub ledger : receipt.ledger ≡ record { total = before.pool.total; free = before.pool.total }

-- The output has got, of the text of the result, what the answer says. The text is known where the first disk tells.
pub record PrintsResult {D T : Type 0} (told : D → Option Blocks) (e : EngineView D) (answer : Result T EmitFault) (old new : Option (List ℕ)) : Type 0 where
  pub text : List ℕ
  pub is : IfTold (told_of told (first_disk e)) (λ _. text ≡ text_of (result_rows told e))
  pub written : Prints answer old new text

-- An engine may be closed while its worker is there, or once it has ended.
abbrev pub MayBeClosed : {D : Type 0} → (D → Option Blocks) → EngineView D → Type 0
MayBeClosed told e = IsReady told e ⊎ IsDown told e

-- The disks came back in their order: the first is kept, and the others are as they were.
pub record ClosesDisks {D : Type 0} (told : D → Option Blocks) (faults : D → ℕ) (e : EngineView D) (disks : List D) : Type 0 where
  pub first : D
  pub kept : Both (KeepsDisk told faults) (first_disk e) (Some first)
  pub all : disks ≡ first ∷ reverse e.others

-- Why a result wasn't printed: `Spill` only where the count of the first disk rose, `Damaged` only where it doesn't tell, with the block
-- that was read last, and `Write` only where the count of the output rose. Neither count falls.
pub record HasEmitCause {T : Type 0} (before now : ℕ) (told : Option Blocks) (out out_now : ℕ) (lot : LotView) (answer : Result T EmitFault) : Type 0 where
  pub later : out ≤ out_now
  pub spill : (worker : ℕ) → IsErrOf answer (fault.Spill worker) → (worker ≡ 0) × Rose before now
  pub damaged : (worker block : ℕ) → IsErrOf answer (fault.Damaged worker block) → (worker ≡ 0) × (block ≡ lot.read_last) × (told ≡ None)
  pub write : IsErrOf answer fault.Write → Rose out out_now
