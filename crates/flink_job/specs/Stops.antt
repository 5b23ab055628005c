use Rattle.std.specs.Prelude.{◌≡◌, ℕ, ◌<◌, ◌≤◌, List, [], Option, Some, None}
use Rattle.flow_outside.specs.Causes.{Rose}
use Rattle.flow_outside.specs.Told.{Appends, AppendsPrefix, AppendsProperPrefix}
use Rattle.flow_outside.specs.Files.{Files}
use Rattle.job_words.specs.declared.program.Program.{Program}
use Rattle.flow_model.specs.declared.plan.Plan.{Plan}
use Rattle.flow_model.specs.Segments.{minimum}
use Rattle.job_words.specs.Words.{Binding, Budget, Task, Asked}
use Rattle.job_report.specs.declared.fault.Fault.{Fault}
use Rattle.job_report.specs.declared.fault.Fault.TheVariants as fault
use Rattle.job_report.specs.Effects.{Reads, Writes}
use Rattle.job_inputs.specs.declared.inputs.Stopped.{Stopped}
use Rattle.flink_job.specs.Outcome.{HasPlan, IsEnough, Ends}

-- How the steps of a run end.

-- how a run ends, where what stopped it is there or not
abbrev pub EndsStopped : Program → Reads → Writes → Asked → Option Stopped → Type 0
EndsStopped p reads out a None = Ends p reads out a [] None
EndsStopped p reads out a (Some s) = Ends p reads out a s.name.now (Some s.fault)

-- how the printing of a text ends
abbrev pub EndsPrinting : List ℕ → Option (List ℕ) → Option (List ℕ) → ℕ → ℕ → Option Fault → Type 0
EndsPrinting text old new before after None = Appends old new text
EndsPrinting text old new before after (Some fault.WriteFault) = AppendsProperPrefix old new text × Rose before after
EndsPrinting text old new before after (Some fault.Memory) = AppendsPrefix old new text
EndsPrinting text old new before after (Some _) = ⊥

-- a budget is enough for a plan, or this is the fault
abbrev pub EndsByBudget : Plan → Option Budget → Option Fault → Type 0
EndsByBudget plan budget None = IsEnough plan budget
EndsByBudget plan None (Some _) = ⊥
EndsByBudget plan (Some b) (Some (fault.TooSmall need have)) = (need ≡ minimum plan b.workers) × ((have ≡ b.segments) × (have < need))
EndsByBudget plan (Some b) (Some _) = ⊥

-- the fault of what stopped, if it did
abbrev pub fault_in : Option Stopped → Option Fault
fault_in None = None
fault_in (Some s) = Some s.fault

-- the name of the source at which it stopped; empty where it did at none
abbrev pub name_in : Option Stopped → List ℕ
name_in None = []
name_in (Some s) = s.name.now

-- How a run of a plan ends, by what files tell, their counts of faults before and after, and how many readers live
-- afterwards: whatever words asked for it, whatever file it is the plan of, and whatever lower counts are taken for those
-- before.
abbrev pub EndsRun : Option Files → (counts after : List ℕ → ℕ) → (living : ℕ) → Writes → Plan → Option Budget → List Binding → Option Stopped → Type 0
EndsRun files counts after living out plan budget bindings stopped =
    (p : Program) (a : Asked) (before : List ℕ → ℕ) → ((k : List ℕ) → before k ≤ counts k)
    → a.task ≡ Task.run budget bindings → HasPlan p files a plan
    → EndsStopped p (record { told = files; before = before; after = after; living = living }) out a stopped

-- what stopped has this fault, and nothing stopped where there is none
abbrev pub IsStoppedBy : Option Fault → Option Stopped → Type 0
IsStoppedBy None None = Unit {0}
IsStoppedBy None (Some s) = ⊥
IsStoppedBy (Some f) None = ⊥
IsStoppedBy (Some f) (Some s) = s.fault ≡ f
