use Rattle.std.specs.Prelude.{◌≡◌, ◌⊎◌, ℕ, List, Option, Some, None, Ok, All}
use Rattle.flow_outside.specs.Causes.{Rose}
use Rattle.flow_outside.specs.Files.{bytes_of}
use Rattle.flow_types.specs.Tuples.{Tuple}
use Rattle.flow_model.specs.declared.plan.Node.{Node}
use Rattle.flow_model.specs.declared.plan.Plan.{Plan}
use Rattle.job_words.specs.declared.program.Program.{Program}
use Rattle.job_words.specs.Words.{Binding, Task, Asked, asked_of}
use Rattle.job_report.specs.declared.fault.Fault.{Fault}
use Rattle.job_report.specs.declared.fault.Fault.TheVariants as fault
use Rattle.job_report.specs.Effects.{Reads, Writes}
use Rattle.job_inputs.specs.Served.{served}
use Rattle.job_inputs.specs.Sources.{sources_of, unbound_name}
use Rattle.job_inputs.specs.Inputs.{path_of, input_rows}
use Rattle.flink_job.specs.Outcome.{IsEnough, IsOutcome}

-- The converse of the causes: where all is well, a run ends well.

-- A source's file is told and has rows.
pub record HasInput (reads : Reads) (bindings : List Binding) (source : Node) : Type 0 where
  pub bytes : List ℕ
  pub told : bytes_of reads.told (path_of bindings source) ≡ Some bytes
  pub rows : List Tuple
  pub rows_are : input_rows source bytes ≡ Some rows

-- A source's file is told and has rows, and no count rose at it.
pub record IsSourceWell (reads : Reads) (bindings : List Binding) (source : Node) : Type 0 where
  pub input : HasInput reads bindings source
  pub read : Rose (reads.before (path_of bindings source)) (reads.after (path_of bindings source)) → ⊥

-- All is well with a task and a plan: where it is to be run, its sources are bound once each and nothing else is, its
-- budget is enough, and each source is well.
abbrev pub IsTaskWell : Reads → Plan → Task → Type 0
IsTaskWell reads plan Task.check = Unit {0}
IsTaskWell reads plan (Task.need workers) = Unit {0}
IsTaskWell reads plan (Task.run budget bindings) =
    (unbound_name bindings plan ≡ None) × (IsEnough plan budget × All (IsSourceWell reads bindings) (sources_of plan))

-- All is well with a run: the words ask for something, the plan's file is told and is a plan that the program serves, all
-- is well with the task, and no count rose at the plan's file or at the output.
pub record IsWell (p : Program) (words : List (List ℕ)) (reads : Reads) (out : Writes) : Type 0 where
  pub a : Asked
  pub asks : asked_of p words ≡ Some a
  pub bytes : List ℕ
  pub told : bytes_of reads.told a.plan ≡ Some bytes
  pub plan : Plan
  pub is : served p bytes ≡ Ok plan
  pub task : IsTaskWell reads plan a.task
  pub read : Rose (reads.before a.plan) (reads.after a.plan) → ⊥
  pub taken : Rose out.before out.after → ⊥

-- Where all is well, all is written, or memory was wanting.
abbrev pub JobCompletes : Type 0
JobCompletes =
    (p : Program) (words : List (List ℕ)) (reads : Reads) (out err : Writes) (status : ℕ) (end : Option Fault)
    → IsWell p words reads out → IsOutcome p words reads out err status end
    → ((end ≡ None) × (status ≡ 0)) ⊎ ((end ≡ Some fault.Memory) × (status ≡ 9))
