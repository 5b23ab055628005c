-- How the ends of the steps are the ends of a run.
use Rattle.std.proofs.Common.{◌≡◌, ℕ, zero, suc, ◌≤◌, inl, inr, true, ◌==◌, List, [], ◌∷◌, ◌++◌, length, refl, sym, ap, ◌∙◌, subst, arith, Option, Some, None, Result, Ok, Err, OnOk, OnErr}
use Rattle.std.specs.Prelude.{All}
use Rattle.std.proofs.lemmas.List.Elements.{All-nil, All-cons, All-head, All-tail, All-weaker, All-filter}
use Rattle.std.proofs.lemmas.Bool.Decides.{Decides-eqb}
use Rattle.std.proofs.lemmas.List.{take_all}
use Rattle.flow_outside.specs.declared.failure.Failed.{Failed}
use Rattle.flow_outside.specs.Causes.{Rose, HasCause}
use Rattle.flow_outside.specs.Files.{Files}
use Rattle.flow_outside.specs.Told.{with_text, Appends, AppendsProperPrefix}
use Rattle.flow_types.proofs.ValueLemmas.{both_true}
use Rattle.flow_types.specs.Tuples.{Tuple}
use Rattle.flow_model.specs.declared.plan.Node.{Node}
use Rattle.flow_model.specs.declared.plan.Plan.{Plan}
use Rattle.flow_model.specs.Algebra.{is_source, eval}
use Rattle.flow_model.specs.Rules.{is_numbered, IsPlan}
use Rattle.delim_io.specs.ResultText.{text_of}
use Rattle.job_words.specs.declared.program.Program.{Program}
use Rattle.job_words.specs.Words.{Binding, Budget, Task, Asked, asked_of}
use Rattle.job_report.specs.declared.fault.Fault.{Fault}
use Rattle.job_report.specs.declared.fault.Fault.TheVariants as fault
use Rattle.job_report.specs.Effects.{Reads, Writes, WritesNothing, Reports}
use Rattle.job_report.specs.Lines.{report_of, status_of}
use Rattle.job_inputs.specs.declared.inputs.Stopped.{Stopped}
use Rattle.job_inputs.specs.Sources.{sources_of, unbound_name}
use Rattle.job_inputs.specs.Inputs.{path_of, HaveRows, StopsAt}
use Rattle.job_inputs.specs.PlanEnds.{EndsReadingPlan}
use Rattle.job_inputs.specs.InputEnds.{EndsReadingInputs}
use Rattle.flink_job.specs.Outcome.{HasPlan, IsEnough, HasResult, HasTaskText, HasText, EndsAtSource, Ends, EndsAsked, IsOutcome}
use Rattle.flink_job.specs.Stops.{EndsStopped, EndsPrinting, EndsByBudget, IsStoppedBy, fault_in, name_in, EndsRun}

-- a count that rose later rose since earlier
rose_from : (a b c : ℕ) → a ≤ b → Rose b c → Rose a c
rose_from a b c low rose = omega (arith, low, rose)

-- what stopped a run has this fault
stopped_by : (p : Program) (reads : Reads) (out : Writes) (a : Asked) (s : Stopped) (f : Fault) → s.fault ≡ f → Ends p reads out a s.name.now (Some f) → EndsStopped p reads out a (Some s)
stopped_by p reads out a s f is e = subst (λ (g : Fault). Ends p reads out a s.name.now (Some g)) (sym is) e

-- ---- printing

printed_ends : (p : Program) (reads : Reads) (out : Writes) (a : Asked) (name text : List ℕ) (end : Option Fault)
    → HasText p reads.told a text → reads.living ≡ 0 → EndsPrinting text out.old out.new out.before out.after end → Ends p reads out a name end
printed_ends p reads out a name text None has living e = record { text = text; is = has; written = e; read = living }
printed_ends p reads out a name text (Some fault.WriteFault) has living e = record { text = text; is = has; written = e.0; rose = e.1 }
printed_ends p reads out a name text (Some fault.Memory) has living e = inr (record { text = text; is = has; written = e })
printed_ends p reads out a name text (Some fault.Usage) has living e = absurd e
printed_ends p reads out a name text (Some (fault.PlanRefused node why)) has living e = absurd e
printed_ends p reads out a name text (Some (fault.InputRefused source line field why)) has living e = absurd e
printed_ends p reads out a name text (Some (fault.ReadFault source)) has living e = absurd e
printed_ends p reads out a name text (Some (fault.TooSmall need have)) has living e = absurd e
printed_ends p reads out a name text (Some (fault.Unbound other)) has living e = absurd e
printed_ends p reads out a name text (Some (fault.SpillFault worker)) has living e = absurd e
printed_ends p reads out a name text (Some (fault.Damaged worker block)) has living e = absurd e
printed_ends p reads out a name text (Some (fault.SolutionFull node step worker need have)) has living e = absurd e

-- all was printed
all_printed : (p : Program) (reads : Reads) (out : Writes) (a : Asked) (text : List ℕ) → HasText p reads.told a text → reads.living ≡ 0
    → EndsPrinting text out.old out.new out.before out.after None → EndsStopped p reads out a None
all_printed p reads out a text has living e = printed_ends p reads out a [] text None has living e

-- printing stopped
stopped_printing : (p : Program) (reads : Reads) (out : Writes) (a : Asked) (text : List ℕ) (s : Stopped) (f : Fault) → s.fault ≡ f → HasText p reads.told a text → reads.living ≡ 0
    → EndsPrinting text out.old out.new out.before out.after (Some f) → EndsStopped p reads out a (Some s)
stopped_printing p reads out a text s f is has living e = stopped_by p reads out a s f is (printed_ends p reads out a s.name.now text (Some f) has living e)

-- ---- the plan's file

not_zero : (n : ℕ) → suc n ≡ 0 → ⊥
not_zero n e = omega (arith, e)

pub stopped_at_plan : (p : Program) (reads : Reads) (out : Writes) (a : Asked) (s : Stopped) (f : Fault) → s.fault ≡ f → WritesNothing out
    → EndsReadingPlan p reads.told a.plan (reads.before a.plan) (reads.after a.plan) f → EndsStopped p reads out a (Some s)
stopped_at_plan p reads out a s f is silent e = stopped_by p reads out a s f is (by f e)
  where
    at : (source : ℕ) → source ≡ 0 → Rose (reads.before a.plan) (reads.after a.plan) → Ends p reads out a s.name.now (Some (fault.ReadFault source))
    at zero zero_is rose = (rose, silent)
    at (suc n) zero_is rose = absurd (not_zero n zero_is)

    by : (f : Fault) → EndsReadingPlan p reads.told a.plan (reads.before a.plan) (reads.after a.plan) f → Ends p reads out a s.name.now (Some f)
    by (fault.ReadFault source) k = at source k.0 k.1
    by (fault.PlanRefused node why) k = record { refused = k; silent = silent }
    by fault.Memory k = inl silent
    by fault.Usage k = absurd k
    by (fault.InputRefused source line field why) k = absurd k
    by fault.WriteFault k = absurd k
    by (fault.TooSmall need have) k = absurd k
    by (fault.Unbound other) k = absurd k
    by (fault.SpillFault worker) k = absurd k
    by (fault.Damaged worker block) k = absurd k
    by (fault.SolutionFull node step worker need have) k = absurd k

-- ---- bindings and budgets

-- memory was wanting before anything was written
pub stopped_wanting : (files : Option Files) (counts after : List ℕ → ℕ) (living : ℕ) (out : Writes) (plan : Plan) (budget : Option Budget) (bindings : List Binding) (s : Stopped)
    → s.fault ≡ fault.Memory → WritesNothing out → EndsRun files counts after living out plan budget bindings (Some s)
stopped_wanting files counts after living out plan budget bindings s is silent p a before low asks has =
    stopped_by p (record { told = files; before = before; after = after; living = living }) out a s fault.Memory is (inl silent)

pub stopped_unbound : (files : Option Files) (counts after : List ℕ → ℕ) (living : ℕ) (out : Writes) (plan : Plan) (budget : Option Budget) (bindings : List Binding) (s : Stopped) (name : List ℕ)
    → s.fault ≡ fault.Unbound name → WritesNothing out → unbound_name bindings plan ≡ Some name → EndsRun files counts after living out plan budget bindings (Some s)
stopped_unbound files counts after living out plan budget bindings s name is silent free p a before low asks has =
    stopped_by p (record { told = files; before = before; after = after; living = living }) out a s (fault.Unbound name) is
    (record { budget = budget; bindings = bindings; asks = asks; plan = plan; has = has; unbound = free; silent = silent })

pub stopped_small : (files : Option Files) (counts after : List ℕ → ℕ) (living : ℕ) (out : Writes) (plan : Plan) (budget : Option Budget) (bindings : List Binding) (s : Stopped) (f : Fault)
    → s.fault ≡ f → WritesNothing out → unbound_name bindings plan ≡ None → EndsByBudget plan budget (Some f) → EndsRun files counts after living out plan budget bindings (Some s)
stopped_small files counts after living out plan None bindings s f is silent bound e p a before low asks has = absurd e
stopped_small files counts after living out plan (Some b) bindings s f is silent bound e p a before low asks has =
    stopped_by p (record { told = files; before = before; after = after; living = living }) out a s f is (by f e)
  where
    by : (f : Fault) → EndsByBudget plan (Some b) (Some f) → Ends p (record { told = files; before = before; after = after; living = living }) out a s.name.now (Some f)
    by (fault.TooSmall need have) k =
        record { budget = b; bindings = bindings; asks = asks; plan = plan; has = has; bound = bound; needs = k.0; holds = k.1.0; small = k.1.1; silent = silent }
    by (fault.Unbound other) k = absurd k
    by (fault.SpillFault worker) k = absurd k
    by (fault.Damaged worker block) k = absurd k
    by (fault.SolutionFull node step worker need have) k = absurd k
    by fault.Memory k = absurd k
    by (fault.ReadFault source) k = absurd k
    by (fault.PlanRefused node why) k = absurd k
    by fault.Usage k = absurd k
    by (fault.InputRefused source line field why) k = absurd k
    by fault.WriteFault k = absurd k

-- ---- inputs

pub numbers_from : (n : ℕ) (nodes : List Node) → is_numbered n nodes ≡ true → All (λ (node : Node). n ≤ node.number) nodes
numbers_from n [] h = All-nil (λ (node : Node). n ≤ node.number)
numbers_from n (x ∷ xs) h =
    let both = both_true (x.number == n) (is_numbered (suc n) xs) h in
    let here : x.number ≡ n = (Decides-eqb x.number n).0 both.0 in
    All-cons (λ (node : Node). n ≤ node.number) x xs (omega (arith, here))
    (All-weaker (λ (node : Node). suc n ≤ node.number) (λ (node : Node). n ≤ node.number) (λ node low. omega arith) xs (numbers_from (suc n) xs both.1))

-- what holds of all holds of what stands behind some
pub all_behind : (P : Node → Type 0) (front back : List Node) → All P (front ++ back) → All P back
all_behind P [] back h = h
all_behind P (x ∷ xs) back h = all_behind P xs back (All-tail P x (xs ++ back) h)

source_above : (plan : Plan) (front back : List Node) (source : Node) → IsPlan plan → sources_of plan ≡ front ++ source ∷ back → 1 ≤ source.number
source_above plan front back source rules parts =
    let all = All-filter (λ (node : Node). is_source node.op) (λ (node : Node). 1 ≤ node.number) plan.nodes (numbers_from 1 plan.nodes rules.numbers) in
    All-head (λ (node : Node). 1 ≤ node.number) source back
    (all_behind (λ (node : Node). 1 ≤ node.number) front (source ∷ back) (subst (λ nodes. All (λ (node : Node). 1 ≤ node.number) nodes) parts all))

none_below_one : (n : ℕ) → 0 ≡ n → 1 ≤ n → ⊥
none_below_one n e f = omega (arith, e, f)

pub stopped_at_input : (files : Option Files) (counts after : List ℕ → ℕ) (living : ℕ) (out : Writes) (plan : Plan) (budget : Option Budget) (bindings : List Binding) (s : Stopped)
    → IsPlan plan → WritesNothing out → unbound_name bindings plan ≡ None → IsEnough plan budget
    → EndsReadingInputs files bindings (sources_of plan) counts after s.name.now s.fault → EndsRun files counts after living out plan budget bindings (Some s)
stopped_at_input files counts after living out plan budget bindings s rules silent bound enough e p a before low asks has = by s.fault e
  where
    at : (number : ℕ) (source : Node) → StopsAt files bindings (sources_of plan) source → number ≡ source.number → s.name.now ≡ source.name
        → EndsAtSource p (record { told = files; before = before; after = after; living = living }) out a number s.name.now
    at number source stops numbered named = record {
      budget = budget;
      bindings = bindings;
      plan = plan;
      may = record { asks = asks; has = has; bound = bound; enough = enough };
      source = source;
      stops = stops;
      numbered = numbered;
      named = named;
      silent = silent;
    }

    read : (number : ℕ) (source : Node) → StopsAt files bindings (sources_of plan) source → number ≡ source.number → s.name.now ≡ source.name
        → Rose (counts (path_of bindings source)) (after (path_of bindings source))
        → Ends p (record { told = files; before = before; after = after; living = living }) out a s.name.now (Some (fault.ReadFault number))
    read zero source stops numbered named rose = absurd (none_below_one source.number numbered (source_above plan stops.front stops.back source rules stops.parts))
    read (suc n) source stops numbered named rose = record {
      at = at (suc n) source stops numbered named;
      rose = rose_from (before (path_of bindings source)) (counts (path_of bindings source)) (after (path_of bindings source)) (low (path_of bindings source)) rose;
    }

    by : (f : Fault) → EndsReadingInputs files bindings (sources_of plan) counts after s.name.now f → Ends p (record { told = files; before = before; after = after; living = living }) out a s.name.now (Some f)
    by (fault.ReadFault number) k = read number k.source k.stops k.numbered k.named k.rose
    by (fault.InputRefused number line field why) k = record {
      at = at number k.source k.stops k.unread.numbered k.named;
      at_line = k.unread.at_line;
      at_field = k.unread.at_field;
      not_built = k.unread.not_built;
      refused = k.unread.refused;
    }
    by fault.Memory k = inl silent
    by (fault.PlanRefused node why) k = absurd k
    by fault.Usage k = absurd k
    by fault.WriteFault k = absurd k
    by (fault.TooSmall need have) k = absurd k
    by (fault.Unbound other) k = absurd k
    by (fault.SpillFault worker) k = absurd k
    by (fault.Damaged worker block) k = absurd k
    by (fault.SolutionFull node step worker need have) k = absurd k

-- ---- results

result_text : (p : Program) (files : Option Files) (a : Asked) (plan : Plan) (budget : Option Budget) (bindings : List Binding) (lists : List (List Tuple))
    → a.task ≡ Task.run budget bindings → HasPlan p files a plan → unbound_name bindings plan ≡ None → IsEnough plan budget → HaveRows files bindings (sources_of plan) lists
    → HasText p files a (text_of (eval plan lists))
result_text p files a plan budget bindings lists asks has bound enough rows =
    let made : HasResult p files a budget bindings (text_of (eval plan lists)) = record {
      plan = plan;
      may = record { asks = asks; has = has; bound = bound; enough = enough };
      lists = lists;
      read = rows;
      is = refl;
    } in
    subst (HasTaskText p files a (text_of (eval plan lists))) (sym asks) made

-- printing ended, and what stopped it is there or not
pub text_ends : (p : Program) (reads : Reads) (out : Writes) (a : Asked) (text : List ℕ) (end : Option Fault) (r : Option Stopped) → IsStoppedBy end r → HasText p reads.told a text → reads.living ≡ 0
    → EndsPrinting text out.old out.new out.before out.after end → EndsStopped p reads out a r
text_ends p reads out a text None None is has living e = all_printed p reads out a text has living e
text_ends p reads out a text None (Some s) is has living e = absurd is
text_ends p reads out a text (Some f) None is has living e = absurd is
text_ends p reads out a text (Some f) (Some s) is has living e = stopped_printing p reads out a text s f is has living e

pub result_ends : (files : Option Files) (counts after : List ℕ → ℕ) (living : ℕ) (out : Writes) (plan : Plan) (budget : Option Budget) (bindings : List Binding) (lists : List (List Tuple)) (end : Option Fault) (r : Option Stopped)
    → IsStoppedBy end r → unbound_name bindings plan ≡ None → IsEnough plan budget → HaveRows files bindings (sources_of plan) lists → living ≡ 0
    → EndsPrinting (text_of (eval plan lists)) out.old out.new out.before out.after end → EndsRun files counts after living out plan budget bindings r
result_ends files counts after living out plan budget bindings lists end r is bound enough rows read e p a before low asks has =
    text_ends p (record { told = files; before = before; after = after; living = living }) out a (text_of (eval plan lists)) end r is
    (result_text p files a plan budget bindings lists asks has bound enough rows) read e

-- ---- the whole

-- a line that was written, as far as the sink took it
pub reports_from : (w : Writes) (line : List ℕ) (r : Result (Unit {0}) Failed) → HasCause w.before w.after r → OnOk r (Appends w.old w.new line) → OnErr r (AppendsProperPrefix w.old w.new line) → Reports w line
reports_from w line (Ok x) cause written broken = record {
  front = record { count = length line; within = omega arith; appended = written ∙ ap (with_text w.old) (sym (take_all (length line) line (omega arith))) };
  whole = inl written;
}
reports_from w line (Err e) cause written broken = record {
  front = record { count = broken.count; within = omega (arith, broken.proper); appended = broken.appended };
  whole = inr cause.rises;
}

named_end : (p : Program) (reads : Reads) (out : Writes) (a : Asked) (s : Option Stopped) → EndsStopped p reads out a s → Ends p reads out a (name_in s) (fault_in s)
named_end p reads out a None e = e
named_end p reads out a (Some s) e = e

-- what was asked for ended, and was told
pub outcome_of : (p : Program) (words : List (List ℕ)) (reads : Reads) (out err : Writes) (status : ℕ) (end : Option Fault) (a : Asked) (s : Option Stopped)
    → Some a ≡ asked_of p words → EndsStopped p reads out a s → end ≡ fault_in s → status ≡ status_of (fault_in s) → Reports err (report_of p (name_in s) (fault_in s))
    → IsOutcome p words reads out err status end
outcome_of p words reads out err status end a s asks ends is told reported = record {
  name = name_in s;
  ends = subst (λ f. EndsAsked p reads out (name_in s) (asked_of p words) f) (sym is) (subst (λ o. EndsAsked p reads out (name_in s) o (fault_in s)) asks (named_end p reads out a s ends));
  status_is = told ∙ ap status_of (sym is);
  reported = subst (λ f. Reports err (report_of p (name_in s) f)) (sym is) reported;
}
