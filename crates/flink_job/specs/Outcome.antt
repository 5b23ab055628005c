use Rattle.std.specs.Prelude.{◌≡◌, ◌⊎◌, ℕ, zero, suc, ◌<◌, ◌≤◌, List, length, Option, Some, None, Ok, Err}
use Rattle.flow_outside.specs.Causes.{Rose}
use Rattle.flow_outside.specs.Told.{AppendsPrefix, AppendsProperPrefix}
use Rattle.flow_outside.specs.Files.{Files, IfFileTold}
use Rattle.flow_types.specs.Tuples.{Tuple}
use Rattle.flow_model.specs.declared.plan.Node.{Node}
use Rattle.flow_model.specs.declared.plan.Plan.{Plan}
use Rattle.flow_model.specs.declared.plan_code.PlanCode.{PlanCode}
use Rattle.flow_model.specs.Algebra.{eval}
use Rattle.flow_model.specs.Rules.{IsPlan}
use Rattle.flow_model.specs.Segments.{widest_record, minimum}
use Rattle.plan_text.specs.declared.fault.PlanFault.TheVariants as plan_fault
use Rattle.delim_io.specs.declared.input_kind.InputKind.{InputKind}
use Rattle.delim_io.specs.declared.input_kind.InputKind.TheVariants as kind
use Rattle.delim_io.specs.ResultText.{text_of}
use Rattle.job_words.specs.declared.program.Program.{Program}
use Rattle.job_words.specs.Words.{Binding, Budget, Task, Asked, asked_of}
use Rattle.job_report.specs.declared.fault.Fault.{Fault}
use Rattle.job_report.specs.declared.fault.Fault.TheVariants as fault
use Rattle.job_report.specs.Effects.{Reads, Writes, WritesNothing, WritesAll, Reports}
use Rattle.job_report.specs.Lines.{report_of, status_of, check_text, need_text}
use Rattle.job_inputs.specs.Served.{served}
use Rattle.job_inputs.specs.Sources.{sources_of, unbound_name}
use Rattle.job_inputs.specs.Inputs.{path_of, input_rows, HaveRows, StopsAt}

-- What a run of a program does: a relation of the words, the shelf and the two sinks before to the status, the fault, the
-- shelf and the sinks after. Where a shelf or a sink doesn't tell its contents, what is said of them is open and the causes
-- stand alone. Where the shelf tells, a file of which something is said is there.

-- ---- what the files say

-- The file that the words name is this plan, as the program serves it, and the plan keeps the rules of plans.
pub record HasPlan (p : Program) (files : Option Files) (a : Asked) (plan : Plan) : Type 0 where
  pub told : IfFileTold files a.plan (λ bytes. served p bytes ≡ Ok plan)
  pub rules : IsPlan plan

-- the segments are enough, where a run has a budget
abbrev pub IsEnough : Plan → Option Budget → Type 0
IsEnough plan None = Unit {0}
IsEnough plan (Some b) = minimum plan b.workers ≤ b.segments

-- A run may read its inputs: its words bind each source once and nothing else, and its segments are enough.
pub record MayRun (p : Program) (files : Option Files) (a : Asked) (plan : Plan) (budget : Option Budget) (bindings : List Binding) : Type 0 where
  pub asks : a.task ≡ Task.run budget bindings
  pub has : HasPlan p files a plan
  pub bound : unbound_name bindings plan ≡ None
  pub enough : IsEnough plan budget

-- The text is that of a run's result: the algebra's, over the rows that the inputs have.
pub record HasResult (p : Program) (files : Option Files) (a : Asked) (budget : Option Budget) (bindings : List Binding) (text : List ℕ) : Type 0 where
  pub plan : Plan
  pub may : MayRun p files a plan budget bindings
  pub lists : List (List Tuple)
  pub read : HaveRows files bindings (sources_of plan) lists
  pub is : text ≡ text_of (eval plan lists)

-- the text that a task with a plan in a file has
abbrev pub HasTaskText : Program → Option Files → Asked → List ℕ → Task → Type 0
HasTaskText p files a text Task.check = (plan : Plan) × (HasPlan p files a plan × (text ≡ check_text (length plan.nodes) (widest_record plan)))
HasTaskText p files a text (Task.need workers) = (plan : Plan) × (HasPlan p files a plan × (text ≡ need_text (minimum plan workers)))
HasTaskText p files a text (Task.run budget bindings) = HasResult p files a budget bindings text

-- the text that is asked for
abbrev pub HasText : Program → Option Files → Asked → List ℕ → Type 0
HasText p files a text = HasTaskText p files a text a.task

-- ---- how a run ends

-- Status 0: exactly the text was written, and every reader was read to its end.
pub record EndsWell (p : Program) (reads : Reads) (out : Writes) (a : Asked) : Type 0 where
  pub text : List ℕ
  pub is : HasText p reads.told a text
  pub written : WritesAll out text
  pub read : reads.living ≡ 0

-- Status 3: the plan's file is refused, with this first fault. Nothing was written.
pub record EndsAtPlan (p : Program) (reads : Reads) (out : Writes) (a : Asked) (node : ℕ) (why : PlanCode) : Type 0 where
  pub refused : IfFileTold reads.told a.plan (λ bytes. served p bytes ≡ Err (plan_fault.Refused node why))
  pub silent : WritesNothing out

-- Status 12: the words don't bind each source once and nothing else. Nothing was written.
pub record EndsUnbound (p : Program) (reads : Reads) (out : Writes) (a : Asked) (name : List ℕ) : Type 0 where
  pub budget : Option Budget
  pub bindings : List Binding
  pub asks : a.task ≡ Task.run budget bindings
  pub plan : Plan
  pub has : HasPlan p reads.told a plan
  pub unbound : unbound_name bindings plan ≡ Some name
  pub silent : WritesNothing out

-- Status 10: the budget is below the plan's minimum. Nothing was written.
pub record EndsTooSmall (p : Program) (reads : Reads) (out : Writes) (a : Asked) (need have : ℕ) : Type 0 where
  pub budget : Budget
  pub bindings : List Binding
  pub asks : a.task ≡ Task.run (Some budget) bindings
  pub plan : Plan
  pub has : HasPlan p reads.told a plan
  pub bound : unbound_name bindings plan ≡ None
  pub needs : need ≡ minimum plan budget.workers
  pub holds : have ≡ budget.segments
  pub small : have < need
  pub silent : WritesNothing out

-- A run stops at a source, after those before it. Nothing was written.
pub record EndsAtSource (p : Program) (reads : Reads) (out : Writes) (a : Asked) (number : ℕ) (name : List ℕ) : Type 0 where
  pub budget : Option Budget
  pub bindings : List Binding
  pub plan : Plan
  pub may : MayRun p reads.told a plan budget bindings
  pub source : Node
  pub stops : StopsAt reads.told bindings (sources_of plan) source
  pub numbered : number ≡ source.number
  pub named : name ≡ source.name
  pub silent : WritesNothing out

-- Status 5 at a source: the count at its file rose.
pub record EndsAtRead (p : Program) (reads : Reads) (out : Writes) (a : Asked) (number : ℕ) (name : List ℕ) : Type 0 where
  pub at : EndsAtSource p reads out a number name
  pub rose : Rose (reads.before (path_of at.bindings at.source)) (reads.after (path_of at.bindings at.source))

-- Status 4: the input of a source isn't of the form that is served.
pub record EndsAtInput (p : Program) (reads : Reads) (out : Writes) (a : Asked) (number line field : ℕ) (why : InputKind) (name : List ℕ) : Type 0 where
  pub at : EndsAtSource p reads out a number name
  pub at_line : line ≡ 0
  pub at_field : field ≡ 0
  pub not_built : why ≡ kind.NotBuilt
  pub refused : IfFileTold reads.told (path_of at.bindings at.source) (λ bytes. input_rows at.source bytes ≡ None)

-- Status 8: the output failed, and a proper prefix of the text was written.
pub record EndsAtWrite (p : Program) (reads : Reads) (out : Writes) (a : Asked) : Type 0 where
  pub text : List ℕ
  pub is : HasText p reads.told a text
  pub written : AppendsProperPrefix out.old out.new text
  pub rose : Rose out.before out.after

-- Status 9 once a text was there: a prefix of it was written.
pub record EndsInPrint (p : Program) (reads : Reads) (out : Writes) (a : Asked) : Type 0 where
  pub text : List ℕ
  pub is : HasText p reads.told a text
  pub written : AppendsPrefix out.old out.new text

-- how a run ends that was asked for; the name is that of the source at which it stops. The statuses 6, 7 and 11 don't come, since no
-- program has rows on a disk yet
abbrev pub Ends : Program → Reads → Writes → Asked → (name : List ℕ) → Option Fault → Type 0
Ends p reads out a name None = EndsWell p reads out a
Ends p reads out a name (Some fault.Usage) = ⊥
Ends p reads out a name (Some (fault.PlanRefused node why)) = EndsAtPlan p reads out a node why
Ends p reads out a name (Some (fault.Unbound other)) = EndsUnbound p reads out a other
Ends p reads out a name (Some (fault.TooSmall need have)) = EndsTooSmall p reads out a need have
Ends p reads out a name (Some (fault.ReadFault zero)) = Rose (reads.before a.plan) (reads.after a.plan) × WritesNothing out
Ends p reads out a name (Some (fault.ReadFault (suc number))) = EndsAtRead p reads out a (suc number) name
Ends p reads out a name (Some (fault.InputRefused number line field why)) = EndsAtInput p reads out a number line field why name
Ends p reads out a name (Some fault.WriteFault) = EndsAtWrite p reads out a
Ends p reads out a name (Some (fault.SpillFault worker)) = ⊥
Ends p reads out a name (Some (fault.Damaged worker block)) = ⊥
Ends p reads out a name (Some (fault.SolutionFull node step worker need have)) = ⊥
Ends p reads out a name (Some fault.Memory) = WritesNothing out ⊎ EndsInPrint p reads out a

-- how words end: words of no form ask for nothing, and that is told
abbrev pub EndsAsked : Program → Reads → Writes → (name : List ℕ) → Option Asked → Option Fault → Type 0
EndsAsked p reads out name None end = (end ≡ Some fault.Usage) × WritesNothing out
EndsAsked p reads out name (Some a) end = Ends p reads out a name end

-- The outcome of a program's words: the end by its cause, its status, and its line on `err`.
pub record IsOutcome (p : Program) (words : List (List ℕ)) (reads : Reads) (out err : Writes) (status : ℕ) (end : Option Fault) : Type 0 where
  pub name : List ℕ
  pub ends : EndsAsked p reads out name (asked_of p words) end
  pub status_is : status ≡ status_of end
  pub reported : Reports err (report_of p name end)
