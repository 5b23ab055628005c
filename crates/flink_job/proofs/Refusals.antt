-- Where a run has a flaw, it is refused for the first one.
use Rattle.std.proofs.Common.{◌≡◌, ℕ, zero, suc, ◌+◌, ◌<◌, ◌≤◌, ◌==◌, inl, inr, true, List, [], ◌∷◌, ◌++◌, filter, refl, sym, ap, ◌∙◌, subst, arith, Bool, false, cond, Option, Some, None, Result, Ok, Err}
use Rattle.std.specs.Prelude.{◌⊎◌, All, IsSomeAnd}
use Rattle.std.proofs.lemmas.List.Elements.{All-head, All-weaker, All-filter}
use Rattle.std.proofs.lemmas.Bool.Decides.{Decides-eqb}
use Rattle.flow_outside.specs.Files.{Files, bytes_of, IsAbsent, IfFileTold}
use Rattle.flow_types.specs.Tuples.{Tuple}
use Rattle.flow_types.proofs.ValueLemmas.{both_true}
use Rattle.flow_model.specs.declared.plan.Node.{Node}
use Rattle.flow_model.specs.declared.plan.Plan.{Plan}
use Rattle.flow_model.specs.declared.plan_code.PlanCode.{PlanCode}
use Rattle.flow_model.specs.Segments.{minimum}
use Rattle.flow_model.specs.Algebra.{is_source}
use Rattle.flow_model.specs.Rules.{is_numbered, IsPlan}
use Rattle.plan_text.specs.declared.fault.PlanFault.{PlanFault}
use Rattle.plan_text.specs.declared.fault.PlanFault.TheVariants as plan_fault
use Rattle.delim_io.specs.declared.input_kind.InputKind.TheVariants as kind
use Rattle.job_words.specs.declared.program.Program.{Program}
use Rattle.job_words.specs.Words.{Binding, Budget, Task, Asked, asked_of}
use Rattle.job_report.specs.declared.fault.Fault.{Fault}
use Rattle.job_report.specs.declared.fault.Fault.TheVariants as fault
use Rattle.job_report.specs.Effects.{Reads, Writes}
use Rattle.job_report.specs.Lines.{status_of}
use Rattle.job_inputs.specs.Served.{served}
use Rattle.job_inputs.specs.Sources.{sources_of, unbound_name}
use Rattle.job_inputs.specs.Inputs.{path_of, input_rows, HasRows, HaveRows, StopsAt}
use Rattle.flink_job.specs.Outcome.{HasPlan, IsEnough, MayRun, HasResult, HasTaskText, HasText, EndsAtSource, Ends, EndsAsked, IsOutcome}
use Rattle.flink_job.specs.Completes.{HasInput}
use Rattle.flink_job.specs.Refuses.{LacksPlan, RefusesPlan, AsksRun, Reaches, EndsWith, EndsUnread, EndsFor, JobRefuses}
use Rattle.flink_job.proofs.Complete.{of_told, same_plan}
use Rattle.flink_job.proofs.Ends.{numbers_from, all_behind}
use Rattle.job_inputs.proofs.Serves.{served_keeps}

-- ---- files

-- nothing is claimed of a file that isn't there
no_file : (files : Option Files) (name : List ℕ) (P : List ℕ → Type 0) → IsAbsent files name → IfFileTold files name P → ⊥
no_file None name P absent h = absent
no_file (Some files) name P absent h = subst (λ t. IsSomeAnd t P) absent h

-- ---- ends and statuses

with_status : (end : Option Fault) (status : ℕ) (why : Fault) → status ≡ status_of end → end ≡ Some why → EndsWith end status why
with_status end status why told is = (is, told ∙ ap status_of is)

-- ---- the plan's file

task_plan : (p : Program) (files : Option Files) (a : Asked) (text : List ℕ) (task : Task) → HasTaskText p files a text task → (plan : Plan) × HasPlan p files a plan
task_plan p files a text Task.check h = (h.0, h.1.0)
task_plan p files a text (Task.need workers) h = (h.0, h.1.0)
task_plan p files a text (Task.run budget bindings) h = (h.plan, h.may.has)

-- How a run ends whose file is no plan.
pub data Planless (p : Program) (reads : Reads) (a : Asked) (end : Option Fault) : Type 0 where
  unread : end ≡ Some (fault.ReadFault 0) → Planless p reads a end
  wanting : end ≡ Some fault.Memory → Planless p reads a end
  refused : (node : ℕ) (why : PlanCode) → IfFileTold reads.told a.plan (λ bytes. served p bytes ≡ Err (plan_fault.Refused node why)) → end ≡ Some (fault.PlanRefused node why) → Planless p reads a end

planless : (p : Program) (reads : Reads) (out : Writes) (a : Asked) (name : List ℕ) (end : Option Fault) → ((plan : Plan) → HasPlan p reads.told a plan → ⊥) → Ends p reads out a name end → Planless p reads a end
planless p reads out a name None none e = absurd (let has = task_plan p reads.told a e.text a.task e.is in none has.0 has.1)
planless p reads out a name (Some fault.Memory) none e = Planless.wanting refl
planless p reads out a name (Some fault.Usage) none e = absurd e
planless p reads out a name (Some (fault.PlanRefused node why)) none e = Planless.refused node why e.refused refl
planless p reads out a name (Some (fault.Unbound other)) none e = absurd (none e.plan e.has)
planless p reads out a name (Some (fault.SpillFault worker)) none e = absurd e
planless p reads out a name (Some (fault.Damaged worker block)) none e = absurd e
planless p reads out a name (Some (fault.SolutionFull node step worker need have)) none e = absurd e
planless p reads out a name (Some (fault.TooSmall need have)) none e = absurd (none e.plan e.has)
planless p reads out a name (Some (fault.ReadFault zero)) none e = Planless.unread refl
planless p reads out a name (Some (fault.ReadFault (suc number))) none e = absurd (none e.at.plan e.at.may.has)
planless p reads out a name (Some (fault.InputRefused number line field why)) none e = absurd (none e.at.plan e.at.may.has)
planless p reads out a name (Some fault.WriteFault) none e = absurd (let has = task_plan p reads.told a e.text a.task e.is in none has.0 has.1)

asked_ends : (p : Program) (words : List (List ℕ)) (reads : Reads) (out err : Writes) (status : ℕ) (end : Option Fault) (a : Asked) → asked_of p words ≡ Some a
    → (o : IsOutcome p words reads out err status end) → Ends p reads out a o.name end
asked_ends p words reads out err status end a asks o = subst (λ asked. EndsAsked p reads out o.name asked end) asks o.ends

no_plan_ends : (p : Program) (words : List (List ℕ)) (reads : Reads) (out err : Writes) (status : ℕ) (end : Option Fault)
    → LacksPlan p words reads → IsOutcome p words reads out err status end → EndsUnread end status 0 ⊎ EndsWith end status fault.Memory
no_plan_ends p words reads out err status end lacks o =
    go (planless p reads out lacks.a o.name end (λ plan has. no_file reads.told lacks.a.plan (λ bytes. served p bytes ≡ Ok plan) lacks.absent has.told) (asked_ends p words reads out err status end lacks.a lacks.asks o))
  where
    go : Planless p reads lacks.a end → EndsUnread end status 0 ⊎ EndsWith end status fault.Memory
    go (Planless.unread is) = inl (0, (omega arith, with_status end status (fault.ReadFault 0) o.status_is is))
    go (Planless.wanting is) = inr (with_status end status fault.Memory o.status_is is)
    go (Planless.refused node why told is) = absurd (no_file reads.told lacks.a.plan (λ bytes. served p bytes ≡ Err (plan_fault.Refused node why)) lacks.absent told)

ok_is_no_fault : (r : Result Plan PlanFault) (plan : Plan) (node : ℕ) (why : PlanCode) → r ≡ Ok plan → r ≡ Err (plan_fault.Refused node why) → ⊥
ok_is_no_fault r plan node why is fails = cc

same_refusal : (r : Result Plan PlanFault) (node node' : ℕ) (why why' : PlanCode) → r ≡ Err (plan_fault.Refused node why) → r ≡ Err (plan_fault.Refused node' why')
    → ◌≡◌ {A = Option Fault} (Some (fault.PlanRefused node' why')) (Some (fault.PlanRefused node why))
same_refusal r node node' why why' is is' =
    let nodes : node' ≡ node = cc in
    let whys : why' ≡ why = cc in
    ap (λ n. Some (fault.PlanRefused n why')) nodes ∙ ap (λ w. Some (fault.PlanRefused node w)) whys

plan_ends : (p : Program) (words : List (List ℕ)) (reads : Reads) (out err : Writes) (status : ℕ) (end : Option Fault) (node : ℕ) (why : PlanCode)
    → RefusesPlan p words reads node why → IsOutcome p words reads out err status end → EndsFor end status 0 (fault.PlanRefused node why)
plan_ends p words reads out err status end node why flaw o =
    go (planless p reads out flaw.a o.name end
    (λ plan has. ok_is_no_fault (served p flaw.bytes) plan node why (of_told reads.told flaw.a.plan flaw.bytes (λ bytes. served p bytes ≡ Ok plan) flaw.told has.told) flaw.is)
    (asked_ends p words reads out err status end flaw.a flaw.asks o))
  where
    go : Planless p reads flaw.a end → EndsFor end status 0 (fault.PlanRefused node why)
    go (Planless.unread is) = inr (inl (0, (omega arith, with_status end status (fault.ReadFault 0) o.status_is is)))
    go (Planless.wanting is) = inr (inr (with_status end status fault.Memory o.status_is is))
    go (Planless.refused node' why' told is) =
        inl (with_status end status (fault.PlanRefused node why) o.status_is
        (is ∙ same_refusal (served p flaw.bytes) node node' why why' flaw.is (of_told reads.told flaw.a.plan flaw.bytes (λ bytes. served p bytes ≡ Err (plan_fault.Refused node' why')) flaw.told told)))

-- ---- a run of a plan

-- How a run of a plan ends.
pub data RunEnd (reads : Reads) (plan : Plan) (budget : Option Budget) (bindings : List Binding) (end : Option Fault) : Type 0 where
  plan_unread : end ≡ Some (fault.ReadFault 0) → RunEnd reads plan budget bindings end
  wanting : end ≡ Some fault.Memory → RunEnd reads plan budget bindings end
  unbound : (name : List ℕ) → unbound_name bindings plan ≡ Some name → end ≡ Some (fault.Unbound name) → RunEnd reads plan budget bindings end
  small : (b : Budget) → unbound_name bindings plan ≡ None → budget ≡ Some b → b.segments < minimum plan b.workers
      → end ≡ Some (fault.TooSmall (minimum plan b.workers) b.segments) → RunEnd reads plan budget bindings end
  unread : (source : Node) → unbound_name bindings plan ≡ None → IsEnough plan budget → StopsAt reads.told bindings (sources_of plan) source
      → end ≡ Some (fault.ReadFault source.number) → RunEnd reads plan budget bindings end
  refused : (source : Node) → unbound_name bindings plan ≡ None → IsEnough plan budget → StopsAt reads.told bindings (sources_of plan) source
      → IfFileTold reads.told (path_of bindings source) (λ bytes. input_rows source bytes ≡ None)
      → end ≡ Some (fault.InputRefused source.number 0 0 kind.NotBuilt) → RunEnd reads plan budget bindings end
  read : (lists : List (List Tuple)) → unbound_name bindings plan ≡ None → IsEnough plan budget → HaveRows reads.told bindings (sources_of plan) lists
      → RunEnd reads plan budget bindings end

moved : (reads : Reads) (plan plan' : Plan) (budget budget' : Option Budget) (bindings bindings' : List Binding) (end : Option Fault)
    → plan' ≡ plan → budget' ≡ budget → bindings' ≡ bindings → RunEnd reads plan' budget' bindings' end → RunEnd reads plan budget bindings end
moved reads plan plan' budget budget' bindings bindings' end plans budgets names e =
    subst (λ bs. RunEnd reads plan budget bs end) names
    (subst (λ b. RunEnd reads plan b bindings' end) budgets (subst (λ q. RunEnd reads q budget' bindings' end) plans e))

same_budget : (budget budget' : Option Budget) (bindings bindings' : List Binding) → Task.run budget bindings ≡ Task.run budget' bindings' → budget ≡ budget'
same_budget budget budget' bindings bindings' e = cc

same_bindings : (budget budget' : Option Budget) (bindings bindings' : List Binding) → Task.run budget bindings ≡ Task.run budget' bindings' → bindings ≡ bindings'
same_bindings budget budget' bindings bindings' e = cc

small_fault : (need need' have have' : ℕ) → need ≡ need' → have ≡ have' → ◌≡◌ {A = Option Fault} (Some (fault.TooSmall need have)) (Some (fault.TooSmall need' have'))
small_fault need need' have have' needs haves = ap (λ n. Some (fault.TooSmall n have)) needs ∙ ap (λ h. Some (fault.TooSmall need' h)) haves

module _ (p : Program) (words : List (List ℕ)) (reads : Reads) (plan : Plan) (budget : Option Budget) (bindings : List Binding) (run : AsksRun p words reads plan budget bindings) where
  -- whatever a run was of, it was of this plan
  here : (plan' : Plan) (budget' : Option Budget) (bindings' : List Binding) (end : Option Fault) → run.a.task ≡ Task.run budget' bindings' → HasPlan p reads.told run.a plan'
      → RunEnd reads plan' budget' bindings' end → RunEnd reads plan budget bindings end
  here plan' budget' bindings' end asks has e =
      let tasks : Task.run budget' bindings' ≡ Task.run budget bindings = sym asks ∙ run.task in
      moved reads plan plan' budget budget' bindings bindings' end
      (same_plan p reads run.a run.bytes plan plan' run.told run.is has)
      (same_budget budget' budget bindings' bindings tasks) (same_bindings budget' budget bindings' bindings tasks) e

  of_text : (text : List ℕ) (end : Option Fault) → HasText p reads.told run.a text → RunEnd reads plan budget bindings end
  of_text text end has =
      let result : HasResult p reads.told run.a budget bindings text = subst (HasTaskText p reads.told run.a text) run.task has in
      here result.plan budget bindings end run.task result.may.has (RunEnd.read result.lists result.may.bound result.may.enough result.read)

  run_end : (out : Writes) (name : List ℕ) (end : Option Fault) → Ends p reads out run.a name end → RunEnd reads plan budget bindings end
  run_end out name None e = of_text e.text None e.is
  run_end out name (Some fault.WriteFault) e = of_text e.text (Some fault.WriteFault) e.is
  run_end out name (Some fault.Memory) e = RunEnd.wanting refl
  run_end out name (Some fault.Usage) e = absurd e
  run_end out name (Some (fault.PlanRefused node why)) e =
      absurd (ok_is_no_fault (served p run.bytes) plan node why run.is (of_told reads.told run.a.plan run.bytes (λ bytes. served p bytes ≡ Err (plan_fault.Refused node why)) run.told e.refused))
  run_end out name (Some (fault.Unbound other)) e = here e.plan e.budget e.bindings (Some (fault.Unbound other)) e.asks e.has (RunEnd.unbound other e.unbound refl)
  run_end out name (Some (fault.SpillFault worker)) e = absurd e
  run_end out name (Some (fault.Damaged worker block)) e = absurd e
  run_end out name (Some (fault.SolutionFull node step worker need have)) e = absurd e
  run_end out name (Some (fault.TooSmall need have)) e =
      let small : need ≡ minimum e.plan e.budget.workers → have ≡ e.budget.segments → have < need → e.budget.segments < minimum e.plan e.budget.workers = λ needs holds low. omega (arith, needs, holds, low) in
      here e.plan (Some e.budget) e.bindings (Some (fault.TooSmall need have)) e.asks e.has
      (RunEnd.small e.budget e.bound refl (small e.needs e.holds e.small) (small_fault need (minimum e.plan e.budget.workers) have e.budget.segments e.needs e.holds))
  run_end out name (Some (fault.ReadFault zero)) e = RunEnd.plan_unread refl
  run_end out name (Some (fault.ReadFault (suc number))) e =
      here e.at.plan e.at.budget e.at.bindings (Some (fault.ReadFault (suc number))) e.at.may.asks e.at.may.has
      (RunEnd.unread e.at.source e.at.may.bound e.at.may.enough e.at.stops (ap (λ n. Some (fault.ReadFault n)) e.at.numbered))
  run_end out name (Some (fault.InputRefused number line field why)) e =
      here e.at.plan e.at.budget e.at.bindings (Some (fault.InputRefused number line field why)) e.at.may.asks e.at.may.has
      (RunEnd.refused e.at.source e.at.may.bound e.at.may.enough e.at.stops e.refused
      (ap (λ n. Some (fault.InputRefused n line field why)) e.at.numbered
      ∙ ap (λ l. Some (fault.InputRefused e.at.source.number l field why)) e.at_line
      ∙ ap (λ f. Some (fault.InputRefused e.at.source.number 0 f why)) e.at_field
      ∙ ap (λ k. Some (fault.InputRefused e.at.source.number 0 0 k)) e.not_built))

is_there : (X : Type 0) (o : Option X) (x : X) → o ≡ None → o ≡ Some x → ⊥
is_there X o x none some = cc

same_some : (X : Type 0) (o : Option X) (x y : X) → o ≡ Some x → o ≡ Some y → x ≡ y
same_some X o x y left right = cc

not_enough : (n m : ℕ) → n < m → m ≤ n → ⊥
not_enough n m low enough = omega arith

unbound_ends : (p : Program) (words : List (List ℕ)) (reads : Reads) (out err : Writes) (status : ℕ) (end : Option Fault) (plan : Plan) (budget : Option Budget) (bindings : List Binding) (name : List ℕ)
    → AsksRun p words reads plan budget bindings → unbound_name bindings plan ≡ Some name → IsOutcome p words reads out err status end
    → EndsFor end status 0 (fault.Unbound name)
unbound_ends p words reads out err status end plan budget bindings name run flaw o =
    go (run_end p words reads plan budget bindings run out o.name end (asked_ends p words reads out err status end run.a run.asks o))
  where
    never : unbound_name bindings plan ≡ None → ⊥
    never bound = is_there (List ℕ) (unbound_name bindings plan) name bound flaw

    go : RunEnd reads plan budget bindings end → EndsFor end status 0 (fault.Unbound name)
    go (RunEnd.plan_unread is) = inr (inl (0, (omega arith, with_status end status (fault.ReadFault 0) o.status_is is)))
    go (RunEnd.wanting is) = inr (inr (with_status end status fault.Memory o.status_is is))
    go (RunEnd.unbound other found is) =
        inl (with_status end status (fault.Unbound name) o.status_is
        (is ∙ ap (λ n. Some (fault.Unbound n)) (same_some (List ℕ) (unbound_name bindings plan) other name found flaw)))
    go (RunEnd.small b bound has low is) = absurd (never bound)
    go (RunEnd.unread source bound enough stops is) = absurd (never bound)
    go (RunEnd.refused source bound enough stops told is) = absurd (never bound)
    go (RunEnd.read lists bound enough have) = absurd (never bound)

small_ends : (p : Program) (words : List (List ℕ)) (reads : Reads) (out err : Writes) (status : ℕ) (end : Option Fault) (plan : Plan) (budget : Budget) (bindings : List Binding)
    → AsksRun p words reads plan (Some budget) bindings → unbound_name bindings plan ≡ None → budget.segments < minimum plan budget.workers → IsOutcome p words reads out err status end
    → EndsFor end status 0 (fault.TooSmall (minimum plan budget.workers) budget.segments)
small_ends p words reads out err status end plan budget bindings run bound low o =
    go (run_end p words reads plan (Some budget) bindings run out o.name end (asked_ends p words reads out err status end run.a run.asks o))
  where
    never : IsEnough plan (Some budget) → ⊥
    never enough = not_enough budget.segments (minimum plan budget.workers) low enough

    go : RunEnd reads plan (Some budget) bindings end → EndsFor end status 0 (fault.TooSmall (minimum plan budget.workers) budget.segments)
    go (RunEnd.plan_unread is) = inr (inl (0, (omega arith, with_status end status (fault.ReadFault 0) o.status_is is)))
    go (RunEnd.wanting is) = inr (inr (with_status end status fault.Memory o.status_is is))
    go (RunEnd.unbound other found is) = absurd (is_there (List ℕ) (unbound_name bindings plan) other bound found)
    go (RunEnd.small b free has below is) =
        let same : b ≡ budget = same_some Budget (Some budget) b budget has refl in
        inl (with_status end status (fault.TooSmall (minimum plan budget.workers) budget.segments) o.status_is
        (is ∙ ap (λ (c : Budget). Some (fault.TooSmall (minimum plan c.workers) c.segments)) same))
    go (RunEnd.unread source free enough stops is) = absurd (never enough)
    go (RunEnd.refused source free enough stops told is) = absurd (never enough)
    go (RunEnd.read lists free enough have) = absurd (never enough)

-- ---- two places in one list

-- Where an element stands, beside another place: at it, before it or behind it.
pub data Beside (front : List Node) (x : Node) (front' : List Node) (x' : Node) : Type 0 where
  same : x' ≡ x → Beside front x front' x'
  before : (f g : List Node) → front ≡ f ++ x' ∷ g → Beside front x front' x'
  behind : (f g : List Node) → front' ≡ f ++ x ∷ g → Beside front x front' x'

first_same : (x y : Node) (xs ys : List Node) → x ∷ xs ≡ y ∷ ys → x ≡ y
first_same x y xs ys e = cc

rest_same : (x y : Node) (xs ys : List Node) → x ∷ xs ≡ y ∷ ys → xs ≡ ys
rest_same x y xs ys e = cc

further : (y z : Node) (front front' : List Node) (x x' : Node) → y ≡ z → Beside front x front' x' → Beside (y ∷ front) x (z ∷ front') x'
further y z front front' x x' head (Beside.same is) = Beside.same is
further y z front front' x x' head (Beside.before f g is) = Beside.before (y ∷ f) g (ap (λ ns. y ∷ ns) is)
further y z front front' x x' head (Beside.behind f g is) = Beside.behind (z ∷ f) g (ap (λ ns. z ∷ ns) is)

beside : (front back : List Node) (x : Node) (front' back' : List Node) (x' : Node) → front ++ x ∷ back ≡ front' ++ x' ∷ back' → Beside front x front' x'
beside [] back x [] back' x' e = Beside.same (sym (first_same x x' back back' e))
beside [] back x (z ∷ zs) back' x' e = Beside.behind [] zs (ap (λ n. n ∷ zs) (sym (first_same x z back (zs ++ x' ∷ back') e)))
beside (y ∷ ys) back x [] back' x' e = Beside.before [] ys (ap (λ n. n ∷ ys) (first_same y x' (ys ++ x ∷ back) back' e))
beside (y ∷ ys) back x (z ∷ zs) back' x' e =
    further y z ys zs x x' (first_same y z (ys ++ x ∷ back) (zs ++ x' ∷ back') e)
    (beside ys back x zs back' x' (rest_same y z (ys ++ x ∷ back) (zs ++ x' ∷ back') e))

-- ---- numbers of sources ascend

abbrev pub Ascends : List Node → Type 0
Ascends [] = Unit {0}
Ascends (x ∷ xs) = All (λ (node : Node). x.number ≤ node.number) xs × Ascends xs

numbered_ascends : (n : ℕ) (nodes : List Node) → is_numbered n nodes ≡ true → Ascends nodes
numbered_ascends n [] h = tt
numbered_ascends n (x ∷ xs) h =
    let both = both_true (x.number == n) (is_numbered (suc n) xs) h in
    let here : x.number ≡ n = (Decides-eqb x.number n).0 both.0 in (
      All-weaker (λ (node : Node). suc n ≤ node.number) (λ (node : Node). x.number ≤ node.number) (λ node low. omega (arith, here)) xs (numbers_from (suc n) xs both.1),
      numbered_ascends (suc n) xs both.1,
    )

-- the first of some, where it passes a test, before those of the others that do
first_ascends : (b : Bool) (x : Node) (xs : List Node) → All (λ (node : Node). x.number ≤ node.number) xs → Ascends xs → Ascends (cond b (x ∷ xs) xs)
first_ascends true x xs low h = (low, h)
first_ascends false x xs low h = h

filter_ascends : (nodes : List Node) → Ascends nodes → Ascends (filter (λ (node : Node). is_source node.op) nodes)
filter_ascends [] h = tt
filter_ascends (x ∷ xs) h =
    first_ascends (is_source x.op) x (filter (λ (node : Node). is_source node.op) xs)
    (All-filter (λ (node : Node). is_source node.op) (λ (node : Node). x.number ≤ node.number) xs h.0) (filter_ascends xs h.1)

earlier_number : (f g back : List Node) (x y : Node) → Ascends ((f ++ x ∷ g) ++ y ∷ back) → x.number ≤ y.number
earlier_number [] g back x y h =
    All-head (λ (node : Node). x.number ≤ node.number) y back (all_behind (λ (node : Node). x.number ≤ node.number) g (y ∷ back) h.0)
earlier_number (z ∷ f) g back x y h = earlier_number f g back x y h.1

-- ---- inputs

-- the rows of a source among those that have rows
rows_at : (files : Option Files) (bs : List Binding) (f g : List Node) (x : Node) (lists : List (List Tuple)) → HaveRows files bs (f ++ x ∷ g) lists
    → (rows : List Tuple) × HasRows files (path_of bs x) x rows
rows_at files bs [] g x [] h = absurd h
rows_at files bs [] g x (rows ∷ lists) h = (rows, h.0)
rows_at files bs (y ∷ f) g x [] h = absurd h
rows_at files bs (y ∷ f) g x (rows ∷ lists) h = rows_at files bs f g x lists h.1

-- what holds of all holds of one among them
all_at : (P : Node → Type 0) (f g : List Node) (x : Node) → All P (f ++ x ∷ g) → P x
all_at P f g x h = All-head P x g (all_behind P f (x ∷ g) h)

-- How a run ends that stops at a source or before it.
pub data StopEnd (reads : Reads) (bindings : List Binding) (source : Node) (end : Option Fault) : Type 0 where
  unread : (number : ℕ) → number ≤ source.number → end ≡ Some (fault.ReadFault number) → StopEnd reads bindings source end
  wanting : end ≡ Some fault.Memory → StopEnd reads bindings source end
  refused : IfFileTold reads.told (path_of bindings source) (λ bytes. input_rows source bytes ≡ None)
      → end ≡ Some (fault.InputRefused source.number 0 0 kind.NotBuilt) → StopEnd reads bindings source end

-- a source of which no rows are told
abbrev pub HasNoRows : Reads → List Binding → Node → Type 0
HasNoRows reads bindings source = (rows : List Tuple) → IfFileTold reads.told (path_of bindings source) (λ bytes. input_rows source bytes ≡ Some rows) → ⊥

module _ (p : Program) (words : List (List ℕ)) (reads : Reads) (plan : Plan) (budget : Option Budget) (bindings : List Binding) (source : Node) (at : Reaches p words reads plan budget bindings source) (none : HasNoRows reads bindings source) (rules : IsPlan plan) where
  not_before : (f g : List Node) (lists : List (List Tuple)) → HaveRows reads.told bindings (f ++ source ∷ g) lists → ⊥
  not_before f g lists have = let rows = rows_at reads.told bindings f g source lists have in none rows.0 rows.1.told

  not_all : (lists : List (List Tuple)) → HaveRows reads.told bindings (sources_of plan) lists → ⊥
  not_all lists have = not_before at.front at.back lists (subst (λ nodes. HaveRows reads.told bindings nodes lists) at.parts have)

  where_at : (other : Node) (stops : StopsAt reads.told bindings (sources_of plan) other) → Beside at.front source stops.front other
  where_at other stops = beside at.front at.back source stops.front stops.back other (sym at.parts ∙ stops.parts)

  ascending : Ascends (at.front ++ source ∷ at.back)
  ascending = subst Ascends at.parts (filter_ascends plan.nodes (numbered_ascends 1 plan.nodes rules.numbers))

  lower : (other : Node) (f g : List Node) → at.front ≡ f ++ other ∷ g → other.number ≤ source.number
  lower other f g is = earlier_number f g at.back other source (subst (λ ns. Ascends (ns ++ source ∷ at.back)) is ascending)

  unread_end : (other : Node) (stops : StopsAt reads.told bindings (sources_of plan) other) (end : Option Fault) → end ≡ Some (fault.ReadFault other.number)
      → Beside at.front source stops.front other → StopEnd reads bindings source end
  unread_end other stops end is (Beside.same equal) = let number : other.number ≡ source.number = ap (λ (n : Node). n.number) equal in StopEnd.unread other.number (omega (arith, number)) is
  unread_end other stops end is (Beside.before f g split) = StopEnd.unread other.number (lower other f g split) is
  unread_end other stops end is (Beside.behind f g split) = absurd (not_before f g stops.lists (subst (λ ns. HaveRows reads.told bindings ns stops.lists) split stops.read))

  refused_end : (other : Node) (stops : StopsAt reads.told bindings (sources_of plan) other) (end : Option Fault) → end ≡ Some (fault.InputRefused other.number 0 0 kind.NotBuilt)
      → IfFileTold reads.told (path_of bindings other) (λ bytes. input_rows other bytes ≡ None) → Beside at.front source stops.front other → StopEnd reads bindings source end
  refused_end other stops end is told (Beside.same equal) =
      StopEnd.refused (subst (λ (n : Node). IfFileTold reads.told (path_of bindings n) (λ bytes. input_rows n bytes ≡ None)) equal told)
      (is ∙ ap (λ (n : Node). Some (fault.InputRefused n.number 0 0 kind.NotBuilt)) equal)
  refused_end other stops end is told (Beside.before f g split) =
      let input = all_at (HasInput reads bindings) f g other (subst (λ ns. All (HasInput reads bindings) ns) split at.inputs) in
      absurd (is_there (List Tuple) (input_rows other input.bytes) input.rows
      (of_told reads.told (path_of bindings other) input.bytes (λ bytes. input_rows other bytes ≡ None) input.told told) input.rows_are)
  refused_end other stops end is told (Beside.behind f g split) = absurd (not_before f g stops.lists (subst (λ ns. HaveRows reads.told bindings ns stops.lists) split stops.read))

  stop_end : (end : Option Fault) → RunEnd reads plan budget bindings end → StopEnd reads bindings source end
  stop_end end (RunEnd.plan_unread is) = StopEnd.unread 0 (omega arith) is
  stop_end end (RunEnd.wanting is) = StopEnd.wanting is
  stop_end end (RunEnd.unbound name found is) = absurd (is_there (List ℕ) (unbound_name bindings plan) name at.bound found)
  stop_end end (RunEnd.small b free has low is) =
      absurd (not_enough b.segments (minimum plan b.workers) low (subst (IsEnough plan) has at.enough))
  stop_end end (RunEnd.unread other free enough stops is) = unread_end other stops end is (where_at other stops)
  stop_end end (RunEnd.refused other free enough stops told is) = refused_end other stops end is told (where_at other stops)
  stop_end end (RunEnd.read lists free enough have) = absurd (not_all lists have)

-- a run's plan keeps the rules
run_rules : (p : Program) (words : List (List ℕ)) (reads : Reads) (plan : Plan) (budget : Option Budget) (bindings : List Binding) → AsksRun p words reads plan budget bindings → IsPlan plan
run_rules p words reads plan budget bindings run = served_keeps p run.bytes plan run.is

source_end : (p : Program) (words : List (List ℕ)) (reads : Reads) (out err : Writes) (status : ℕ) (end : Option Fault) (plan : Plan) (budget : Option Budget) (bindings : List Binding) (source : Node)
    → Reaches p words reads plan budget bindings source → HasNoRows reads bindings source → IsOutcome p words reads out err status end → StopEnd reads bindings source end
source_end p words reads out err status end plan budget bindings source at none o =
    stop_end p words reads plan budget bindings source at none (run_rules p words reads plan budget bindings at.run) end
    (run_end p words reads plan budget bindings at.run out o.name end (asked_ends p words reads out err status end at.run.a at.run.asks o))

no_input_ends : (p : Program) (words : List (List ℕ)) (reads : Reads) (out err : Writes) (status : ℕ) (end : Option Fault) (plan : Plan) (budget : Option Budget) (bindings : List Binding) (source : Node)
    → Reaches p words reads plan budget bindings source → IsAbsent reads.told (path_of bindings source) → IsOutcome p words reads out err status end
    → EndsUnread end status source.number ⊎ EndsWith end status fault.Memory
no_input_ends p words reads out err status end plan budget bindings source at absent o =
    go (source_end p words reads out err status end plan budget bindings source at
    (λ rows told. no_file reads.told (path_of bindings source) (λ bytes. input_rows source bytes ≡ Some rows) absent told) o)
  where
    go : StopEnd reads bindings source end → EndsUnread end status source.number ⊎ EndsWith end status fault.Memory
    go (StopEnd.unread number low is) = inl (number, (low, with_status end status (fault.ReadFault number) o.status_is is))
    go (StopEnd.wanting is) = inr (with_status end status fault.Memory o.status_is is)
    go (StopEnd.refused told is) = absurd (no_file reads.told (path_of bindings source) (λ bytes. input_rows source bytes ≡ None) absent told)

input_ends : (p : Program) (words : List (List ℕ)) (reads : Reads) (out err : Writes) (status : ℕ) (end : Option Fault) (plan : Plan) (budget : Option Budget) (bindings : List Binding) (source : Node) (bytes : List ℕ)
    → Reaches p words reads plan budget bindings source → bytes_of reads.told (path_of bindings source) ≡ Some bytes → input_rows source bytes ≡ None → IsOutcome p words reads out err status end
    → EndsFor end status source.number (fault.InputRefused source.number 0 0 kind.NotBuilt)
input_ends p words reads out err status end plan budget bindings source bytes at told flaw o =
    go (source_end p words reads out err status end plan budget bindings source at
    (λ rows claim. is_there (List Tuple) (input_rows source bytes) rows flaw (of_told reads.told (path_of bindings source) bytes (λ b. input_rows source b ≡ Some rows) told claim)) o)
  where
    go : StopEnd reads bindings source end → EndsFor end status source.number (fault.InputRefused source.number 0 0 kind.NotBuilt)
    go (StopEnd.unread number low is) = inr (inl (number, (low, with_status end status (fault.ReadFault number) o.status_is is)))
    go (StopEnd.wanting is) = inr (inr (with_status end status fault.Memory o.status_is is))
    go (StopEnd.refused claim is) = inl (with_status end status (fault.InputRefused source.number 0 0 kind.NotBuilt) o.status_is is)

-- Each first flaw is told.
pub all_refused : JobRefuses
all_refused = record {
  absent_plan = no_plan_ends;
  refused_plan = plan_ends;
  unbound_source = unbound_ends;
  small_budget = small_ends;
  absent_input = no_input_ends;
  refused_input = input_ends;
}
