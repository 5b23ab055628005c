-- Where all is well, a run ends well.
use Rattle.std.proofs.Common.{◌≡◌, ℕ, zero, suc, ◌<◌, ◌≤◌, inl, inr, List, [], ◌∷◌, ◌++◌, refl, sym, ap, ◌∙◌, subst, arith, Option, Some, None, Result, Ok, Err}
use Rattle.std.specs.Prelude.{◌⊎◌, All}
use Rattle.std.proofs.lemmas.List.Elements.{All-head, All-tail}
use Rattle.flow_outside.specs.Causes.{Rose}
use Rattle.std.specs.Prelude.{IsSomeAnd}
use Rattle.flow_outside.specs.Files.{Files, bytes_of, IfFileTold}
use Rattle.flow_types.specs.Tuples.{Tuple}
use Rattle.flow_model.specs.declared.plan.Node.{Node}
use Rattle.flow_model.specs.declared.plan.Plan.{Plan}
use Rattle.flow_model.specs.Segments.{minimum}
use Rattle.flow_model.specs.declared.plan_code.PlanCode.{PlanCode}
use Rattle.plan_text.specs.declared.fault.PlanFault.{PlanFault}
use Rattle.plan_text.specs.declared.fault.PlanFault.TheVariants as plan_fault
use Rattle.job_words.specs.declared.program.Program.{Program}
use Rattle.job_words.specs.Words.{Binding, Budget, Task, Asked, asked_of}
use Rattle.job_report.specs.declared.fault.Fault.{Fault}
use Rattle.job_report.specs.declared.fault.Fault.TheVariants as fault
use Rattle.job_report.specs.Effects.{Reads, Writes}
use Rattle.job_report.specs.Lines.{status_of}
use Rattle.job_inputs.specs.Served.{served}
use Rattle.job_inputs.specs.Sources.{sources_of, unbound_name}
use Rattle.job_inputs.specs.Inputs.{path_of, input_rows, StopsAt}
use Rattle.flink_job.specs.Outcome.{HasPlan, IsEnough, MayRun, EndsAtSource, Ends, EndsAsked, IsOutcome}
use Rattle.flink_job.specs.Completes.{IsSourceWell, IsTaskWell, IsWell}

-- what is told of a file that is told
pub of_told : (files : Option Files) (name bytes : List ℕ) (P : List ℕ → Type 0) → bytes_of files name ≡ Some bytes → IfFileTold files name P → P bytes
of_told None name bytes P told h = cc
of_told (Some files) name bytes P told h = subst (λ t. IsSomeAnd t P) told h

-- the plan that the file is
pub same_plan : (p : Program) (reads : Reads) (a : Asked) (bytes : List ℕ) (plan other : Plan) → bytes_of reads.told a.plan ≡ Some bytes → served p bytes ≡ Ok plan → HasPlan p reads.told a other → other ≡ plan
same_plan p reads a bytes plan other told is has =
    let h : served p bytes ≡ Ok other = of_told reads.told a.plan bytes (λ b. served p b ≡ Ok other) told has.told in
    ok_same other plan (sym h ∙ is)
  where
    ok_same : (x y : Plan) → ◌≡◌ {A = Result Plan PlanFault} (Ok x) (Ok y) → x ≡ y
    ok_same x y e = cc

-- a run is well
abbrev pub RunsWell : Reads → Plan → Option Budget → List Binding → Type 0
RunsWell reads plan budget bindings = IsTaskWell reads plan (Task.run budget bindings)

of_middle : (P : Node → Type 0) (front back : List Node) (source : Node) → All P (front ++ source ∷ back) → P source
of_middle P [] back source h = All-head P source back h
of_middle P (x ∷ xs) back source h = of_middle P xs back source (All-tail P x (xs ++ source ∷ back) h)

module _ (p : Program) (reads : Reads) (out : Writes) (a : Asked) (bytes : List ℕ) (told : bytes_of reads.told a.plan ≡ Some bytes) (plan : Plan) (is : served p bytes ≡ Ok plan) (task : IsTaskWell reads plan a.task) where
  runs : (budget : Option Budget) (bindings : List Binding) (other : Plan) → a.task ≡ Task.run budget bindings → HasPlan p reads.told a other → RunsWell reads other budget bindings
  runs budget bindings other asks has =
      subst (λ q. RunsWell reads q budget bindings) (sym (same_plan p reads a bytes plan other told is has)) (subst (IsTaskWell reads plan) asks task)

  no_refusal : (node : ℕ) (why : PlanCode) → IfFileTold reads.told a.plan (λ b. served p b ≡ Err (plan_fault.Refused node why)) → ⊥
  no_refusal node why h =
      let e : served p bytes ≡ Err (plan_fault.Refused node why) = of_told reads.told a.plan bytes (λ b. served p b ≡ Err (plan_fault.Refused node why)) told h in
      cc

  source_well : (number : ℕ) (name : List ℕ) (at : EndsAtSource p reads out a number name) → IsSourceWell reads at.bindings at.source
  source_well number name at =
      let well = runs at.budget at.bindings at.plan at.may.asks at.may.has in
      of_middle (IsSourceWell reads at.bindings) at.stops.front at.stops.back at.source (subst (λ nodes. All (IsSourceWell reads at.bindings) nodes) at.stops.parts well.1.1)

  no_unbound : (budget : Option Budget) (bindings : List Binding) (other : Plan) (name : List ℕ) → a.task ≡ Task.run budget bindings → HasPlan p reads.told a other → unbound_name bindings other ≡ Some name → ⊥
  no_unbound budget bindings other name asks has unbound = let well = runs budget bindings other asks has in let bound : unbound_name bindings other ≡ None = well.0 in cc

  no_small : (budget : Budget) (bindings : List Binding) (other : Plan) (need have : ℕ) → a.task ≡ Task.run (Some budget) bindings → HasPlan p reads.told a other
      → need ≡ minimum other budget.workers → have ≡ budget.segments → have < need → ⊥
  no_small budget bindings other need have asks has needs holds small =
      let enough : minimum other budget.workers ≤ budget.segments = (runs (Some budget) bindings other asks has).1.0 in
      omega (arith, needs, holds, small, enough)

  no_input : (number : ℕ) (name : List ℕ) (at : EndsAtSource p reads out a number name) → IfFileTold reads.told (path_of at.bindings at.source) (λ b. input_rows at.source b ≡ None) → ⊥
  no_input number name at h =
      let well = source_well number name at in
      let e : input_rows at.source well.input.bytes ≡ None = of_told reads.told (path_of at.bindings at.source) well.input.bytes (λ b. input_rows at.source b ≡ None) well.input.told h in
      let f : input_rows at.source well.input.bytes ≡ Some well.input.rows = well.input.rows_are in
      cc

  completes : (Rose (reads.before a.plan) (reads.after a.plan) → ⊥) → (Rose out.before out.after → ⊥) → (name : List ℕ) (end : Option Fault) → Ends p reads out a name end
      → (end ≡ None) ⊎ (end ≡ Some fault.Memory)
  completes read taken name None e = inl refl
  completes read taken name (Some fault.Memory) e = inr refl
  completes read taken name (Some fault.Usage) e = absurd e
  completes read taken name (Some (fault.PlanRefused node why)) e = absurd (no_refusal node why e.refused)
  completes read taken name (Some (fault.Unbound other)) e = absurd (no_unbound e.budget e.bindings e.plan other e.asks e.has e.unbound)
  completes read taken name (Some (fault.SpillFault worker)) e = absurd e
  completes read taken name (Some (fault.Damaged worker block)) e = absurd e
  completes read taken name (Some (fault.SolutionFull node step worker need have)) e = absurd e
  completes read taken name (Some (fault.TooSmall need have)) e = absurd (no_small e.budget e.bindings e.plan need have e.asks e.has e.needs e.holds e.small)
  completes read taken name (Some (fault.ReadFault zero)) e = absurd (read e.0)
  completes read taken name (Some (fault.ReadFault (suc number))) e = absurd ((source_well (suc number) name e.at).read e.rose)
  completes read taken name (Some (fault.InputRefused number line field why)) e = absurd (no_input number name e.at e.refused)
  completes read taken name (Some fault.WriteFault) e = absurd (taken e.rose)

pub all_completes : (p : Program) (words : List (List ℕ)) (reads : Reads) (out err : Writes) (status : ℕ) (end : Option Fault) → IsWell p words reads out → IsOutcome p words reads out err status end
    → ((end ≡ None) × (status ≡ 0)) ⊎ ((end ≡ Some fault.Memory) × (status ≡ 9))
all_completes p words reads out err status end well o = go (completes p reads out well.a well.bytes well.told well.plan well.is well.task well.read well.taken o.name end (subst (λ asked. EndsAsked p reads out o.name asked end) well.asks o.ends))
  where
    go : (end ≡ None) ⊎ (end ≡ Some fault.Memory) → ((end ≡ None) × (status ≡ 0)) ⊎ ((end ≡ Some fault.Memory) × (status ≡ 9))
    go (inl e) = inl (e, o.status_is ∙ ap status_of e)
    go (inr e) = inr (e, o.status_is ∙ ap status_of e)
