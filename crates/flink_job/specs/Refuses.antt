use Rattle.std.specs.Prelude.{◌≡◌, ◌⊎◌, ℕ, ◌<◌, ◌≤◌, List, ◌∷◌, ◌++◌, Option, Some, None, Ok, Err, All}
use Rattle.flow_outside.specs.Files.{bytes_of, IsAbsent}
use Rattle.flow_model.specs.declared.plan.Node.{Node}
use Rattle.flow_model.specs.declared.plan.Plan.{Plan}
use Rattle.flow_model.specs.declared.plan_code.PlanCode.{PlanCode}
use Rattle.flow_model.specs.Segments.{minimum}
use Rattle.plan_text.specs.declared.fault.PlanFault.TheVariants as plan_fault
use Rattle.delim_io.specs.declared.input_kind.InputKind.TheVariants as kind
use Rattle.job_words.specs.declared.program.Program.{Program}
use Rattle.job_words.specs.Words.{Binding, Budget, Task, Asked, asked_of}
use Rattle.job_report.specs.declared.fault.Fault.{Fault}
use Rattle.job_report.specs.declared.fault.Fault.TheVariants as fault
use Rattle.job_report.specs.Effects.{Reads, Writes}
use Rattle.job_report.specs.Lines.{status_of}
use Rattle.job_inputs.specs.Served.{served}
use Rattle.job_inputs.specs.Sources.{sources_of, unbound_name}
use Rattle.job_inputs.specs.Inputs.{path_of, input_rows}
use Rattle.flink_job.specs.Outcome.{IsEnough, IsOutcome}
use Rattle.flink_job.specs.Completes.{HasInput}

-- The converse of each refusal: where the files are told, and this is the first flaw, a run is refused for it. Before it
-- come only a file that couldn't be read and want of memory.

-- ---- the first flaw of a run

-- The words ask for something, and no file has the plan's name.
pub record LacksPlan (p : Program) (words : List (List ℕ)) (reads : Reads) : Type 0 where
  pub a : Asked
  pub asks : asked_of p words ≡ Some a
  pub absent : IsAbsent reads.told a.plan

-- The words ask for something, and the plan's file is told and is refused so.
pub record RefusesPlan (p : Program) (words : List (List ℕ)) (reads : Reads) (node : ℕ) (why : PlanCode) : Type 0 where
  pub a : Asked
  pub asks : asked_of p words ≡ Some a
  pub bytes : List ℕ
  pub told : bytes_of reads.told a.plan ≡ Some bytes
  pub is : served p bytes ≡ Err (plan_fault.Refused node why)

-- The words ask for a run of this plan, whose file is told.
pub record AsksRun (p : Program) (words : List (List ℕ)) (reads : Reads) (plan : Plan) (budget : Option Budget) (bindings : List Binding) : Type 0 where
  pub a : Asked
  pub asks : asked_of p words ≡ Some a
  pub task : a.task ≡ Task.run budget bindings
  pub bytes : List ℕ
  pub told : bytes_of reads.told a.plan ≡ Some bytes
  pub is : served p bytes ≡ Ok plan

-- A run reaches the reading of this source: its sources are bound once each and nothing else is, its budget is enough, and
-- the sources before this one have their inputs.
pub record Reaches (p : Program) (words : List (List ℕ)) (reads : Reads) (plan : Plan) (budget : Option Budget) (bindings : List Binding) (source : Node) : Type 0 where
  pub run : AsksRun p words reads plan budget bindings
  pub bound : unbound_name bindings plan ≡ None
  pub enough : IsEnough plan budget
  pub front : List Node
  pub back : List Node
  pub parts : sources_of plan ≡ front ++ source ∷ back
  pub inputs : All (HasInput reads bindings) front

-- ---- what it comes to

-- This is the fault, and the status is the fault's.
abbrev pub EndsWith : Option Fault → (status : ℕ) → Fault → Type 0
EndsWith end status why = (end ≡ Some why) × (status ≡ status_of (Some why))

-- A file couldn't be read: that of the plan, which is number 0, or that of a source up to this number.
abbrev pub EndsUnread : Option Fault → (status last : ℕ) → Type 0
EndsUnread end status last = (number : ℕ) × ((number ≤ last) × EndsWith end status (fault.ReadFault number))

-- This is the fault, unless a file up to this number couldn't be read or memory was wanting.
abbrev pub EndsFor : Option Fault → (status last : ℕ) → Fault → Type 0
EndsFor end status last why = EndsWith end status why ⊎ (EndsUnread end status last ⊎ EndsWith end status fault.Memory)

-- Each first flaw is told.
pub record JobRefuses : Type 0 where
  pub absent_plan : (p : Program) (words : List (List ℕ)) (reads : Reads) (out err : Writes) (status : ℕ) (end : Option Fault)
      → LacksPlan p words reads → IsOutcome p words reads out err status end
      → EndsUnread end status 0 ⊎ EndsWith end status fault.Memory
  pub refused_plan : (p : Program) (words : List (List ℕ)) (reads : Reads) (out err : Writes) (status : ℕ) (end : Option Fault) (node : ℕ) (why : PlanCode)
      → RefusesPlan p words reads node why → IsOutcome p words reads out err status end
      → EndsFor end status 0 (fault.PlanRefused node why)
  pub unbound_source : (p : Program) (words : List (List ℕ)) (reads : Reads) (out err : Writes) (status : ℕ) (end : Option Fault) (plan : Plan) (budget : Option Budget) (bindings : List Binding) (name : List ℕ)
      → AsksRun p words reads plan budget bindings → unbound_name bindings plan ≡ Some name → IsOutcome p words reads out err status end
      → EndsFor end status 0 (fault.Unbound name)
  pub small_budget : (p : Program) (words : List (List ℕ)) (reads : Reads) (out err : Writes) (status : ℕ) (end : Option Fault) (plan : Plan) (budget : Budget) (bindings : List Binding)
      → AsksRun p words reads plan (Some budget) bindings → unbound_name bindings plan ≡ None → budget.segments < minimum plan budget.workers → IsOutcome p words reads out err status end
      → EndsFor end status 0 (fault.TooSmall (minimum plan budget.workers) budget.segments)
  pub absent_input : (p : Program) (words : List (List ℕ)) (reads : Reads) (out err : Writes) (status : ℕ) (end : Option Fault) (plan : Plan) (budget : Option Budget) (bindings : List Binding) (source : Node)
      → Reaches p words reads plan budget bindings source → IsAbsent reads.told (path_of bindings source) → IsOutcome p words reads out err status end
      → EndsUnread end status source.number ⊎ EndsWith end status fault.Memory
  pub refused_input : (p : Program) (words : List (List ℕ)) (reads : Reads) (out err : Writes) (status : ℕ) (end : Option Fault) (plan : Plan) (budget : Option Budget) (bindings : List Binding) (source : Node) (bytes : List ℕ)
      → Reaches p words reads plan budget bindings source → bytes_of reads.told (path_of bindings source) ≡ Some bytes → input_rows source bytes ≡ None → IsOutcome p words reads out err status end
      → EndsFor end status source.number (fault.InputRefused source.number 0 0 kind.NotBuilt)
