-- An engine between its calls.
use Rattle.std.proofs.Common.{◌≡◌, ◌≢◌, ◌⊎◌, inl, inr, ℕ, ◌≤◌, true, false, All, List, [], ◌∷◌, ◌++◌, length, reverse, Result, Ok, Err, OnOk, Option, Some, None, refl, sym, ap, ◌∙◌, subst, arith, is_some, append-nil}
use Rattle.std.specs.Prelude.{IfOk, IsErrOf, IsSome, sum_by}
use Rattle.std.proofs.lemmas.Bool.{false≢true}
use Rattle.std.proofs.lemmas.List.{reverse-append, reverse-reverse}
use Rattle.std.proofs.lemmas.List.Elements.{All-head, All-tail}
use Rattle.std.proofs.lemmas.List.Sums.{sum_by-cons}
use Rattle.segment_core.specs.Segments.{PoolView}
use Rattle.segment_core.proofs.Holders.{length-free}
use Rattle.flow_outside.specs.Blocks.{Blocks}
use Rattle.flow_outside.specs.Told.{Appends, AppendsPrefix, IfTold}
use Rattle.flow_model.specs.declared.op.Op.{Op}
use Rattle.flow_model.specs.declared.op.Op.TheVariants as op
use Rattle.flow_model.specs.declared.plan.Node.{Node}
use Rattle.flow_model.specs.declared.plan.Plan.{Plan}
use Rattle.flow_model.specs.Algebra.{Env, Moment, given, is_source, moments, outer_step, source_numbers, supersteps, turns}
use Rattle.flow_model.specs.Env.{Tuples}
use Rattle.flow_model.specs.Rules.{node_at}
use Rattle.row_pipe.specs.Works.{work_of}
use Rattle.lot_store.specs.Lots.{LotView}
use Rattle.lot_store.specs.Storage.{IsReadyAt, Stand}
use Rattle.worker_storage.specs.Storages.{HoldsSome, view_of}
use Rattle.worker_core.specs.Workers.{IsSound, IsWorkerOf, KeepsWorker, LeavesDisk, StaysBeside, WorkerView, worker_rows}
use Rattle.delim_io.specs.ResultText.{text_of}
use Rattle.superstep.specs.Both.{Both}
use Rattle.superstep.specs.Emitting.{HasReadingCause, KeepsPlace, Prints}
use Rattle.superstep.specs.EngineCalls.{ClosesDisks, Executes, HasEmitCause, IsLoaded, KeepsEngine, Loads, MayBeClosed, PrintsResult}
use Rattle.superstep.specs.EngineSteps.{Makes, MayBeTakenDown, ReadsResult, TakesDown, faults_of}
use Rattle.superstep.specs.Engines.{EngineView, IsDone, IsDown, IsReady, first_disk, first_of, loaded_rows, result_rows, rows_with, told_of}
use Rattle.superstep.specs.Executing.{HasExecCause, HoldsResult, IsCounted, KeepsDisk, KeepsSegments, LiesBeside, MakesResult, result_in, rows_for}
use Rattle.superstep.specs.Loading.{HasLoadCause, IsSource, StoresAll, StoresRows, rows_of_input}
use Rattle.superstep.specs.Opening.{IsAccounted, IsAllFree}
use Rattle.superstep.specs.Outer.{HoldsInputs, IsServed, IsServedNode}
use Rattle.superstep.specs.declared.faults.EmitFault.{EmitFault}
use Rattle.superstep.specs.declared.faults.EmitFault.TheVariants as emit_fault
use Rattle.superstep.specs.declared.faults.ExecFault.{ExecFault}
use Rattle.superstep.specs.declared.faults.ExecFault.TheVariants as exec_fault
use Rattle.superstep.specs.declared.faults.LoadFault.{LoadFault}
use Rattle.superstep.specs.declared.ledger.Ledger.{Ledger}
use Rattle.superstep.specs.declared.phase.Phase.{Phase}
use Rattle.superstep.specs.declared.phase.Phase.TheVariants as phase
use Rattle.superstep.proofs.Emits.{err_at}
use Rattle.superstep.proofs.Ledgers.{still_accounted}
use Rattle.superstep.proofs.Making.{all_outer}
use Rattle.superstep.proofs.Results.{empty_beside, tells_same, the_result}

-- ---- disks

pub keeps_disk_join : {D : Type 0} (told : D → Option Blocks) (faults : D → ℕ) (a b c : Option D) → Both (KeepsDisk told faults) a b → Both (KeepsDisk told faults) b c → Both (KeepsDisk told faults) a c
keeps_disk_join told faults None None c f g = g
keeps_disk_join told faults None (Some y) c f g = absurd f
keeps_disk_join told faults (Some x) None c f g = absurd f
keeps_disk_join told faults (Some x) (Some y) None f g = absurd g
keeps_disk_join told faults (Some x) (Some y) (Some z) f g = record { later = omega (arith, f.later, g.later); tells = g.tells ∙ f.tells }

pub keeps_disk_none : {D : Type 0} (told : D → Option Blocks) (faults : D → ℕ) (a : Option D) → Both (KeepsDisk told faults) a a
keeps_disk_none told faults None = tt
keeps_disk_none told faults (Some x) = record { later = omega arith; tells = refl }

pub faults_later : {D : Type 0} (told : D → Option Blocks) (faults : D → ℕ) (a b : Option D) → Both (KeepsDisk told faults) a b → faults_of faults a ≤ faults_of faults b
faults_later told faults None None f = omega arith
faults_later told faults None (Some y) f = absurd f
faults_later told faults (Some x) None f = absurd f
faults_later told faults (Some x) (Some y) f = f.later

-- ---- what a call keeps

pub keeps_engine_join : {D : Type 0} (told : D → Option Blocks) (faults : D → ℕ) (e m f : EngineView D) → KeepsEngine told faults e m → KeepsEngine told faults m f → KeepsEngine told faults e f
keeps_engine_join told faults e m f a b = record {
  plan = b.plan ∙ a.plan;
  allot = b.allot ∙ a.allot;
  total = b.total ∙ a.total;
  size = b.size ∙ a.size;
  others = b.others ∙ a.others;
  first = keeps_disk_join told faults (first_disk e) (first_disk m) (first_disk f) a.first b.first;
}

-- ---- an engine with a worker

module _ {D : Type 0} (told : D → Option Blocks) (e : EngineView D) (w : WorkerView D) (there : e.worker ≡ Some w) where
  pub first_is : first_disk e ≡ Some w.storage.disk
  first_is = ap (λ o. first_of o e.disk) there

  pub rows_are : (n : ℕ) → loaded_rows told e n ≡ worker_rows told e.plan.nodes w n
  rows_are n = ap (λ o. rows_with told e.plan o n) there

  pub told_is : told_of told (first_disk e) ≡ told w.storage.disk
  told_is = ap (told_of told) first_is

  pub faults_are : (faults : D → ℕ) → faults_of faults (first_disk e) ≡ faults w.storage.disk
  faults_are faults = ap (faults_of faults) first_is

  pub claimed : (P : Type 0) → IfTold (told w.storage.disk) (λ _. P) → IfTold (told_of told (first_disk e)) (λ _. P)
  claimed P h = subst (λ o. IfTold o (λ _. P)) (sym told_is) h

  -- with another worker, whose disk is kept
  pub keeps_with : (faults : D → ℕ) (v : WorkerView D) (place : LotView) → KeepsDisk told faults w.storage.disk v.storage.disk → KeepsEngine told faults e (record { plan = e.plan; allot = e.allot; phase = e.phase; pool = e.pool; worker = Some v; place = place; disk = e.disk; others = e.others })
  keeps_with faults v place kept = record {
    plan = refl;
    allot = refl;
    total = refl;
    size = refl;
    others = refl;
    first = subst (λ o. Both (KeepsDisk told faults) o (Some v.storage.disk)) (sym first_is) kept;
  }

-- ---- rows are loaded

told_claim : (t : Option Blocks) (P Q : Type 0) → (P → Q) → IfTold t (λ _. P) → IfTold t (λ _. Q)
told_claim None P Q f h = tt
told_claim (Some m) P Q f h = f h

module _ {D : Type 0} (told : D → Option Blocks) (e : EngineView D) (w v : WorkerView D) (there : e.worker ≡ Some w) (source : ℕ) (is : IsSource e.plan source) where
  abbrev pub with_worker : EngineView D
  with_worker = record { plan = e.plan; allot = e.allot; phase = e.phase; pool = e.pool; worker = Some v; place = e.place; disk = e.disk; others = e.others }

  loads : (count : ℕ) (bytes : List ℕ) → StoresAll told e.plan.nodes source (rows_of_input is.node bytes) count w v → Loads told source count e with_worker bytes
  loads count bytes all = record {
    node = is.node;
    found = is.found;
    rows = all.rows;
    read = all.all;
    count = all.count;
    stored = claimed told e w there (loaded_rows told with_worker source ≡ loaded_rows told e source ++ all.rows)
        (told_claim (told w.storage.disk) (StoresRows told e.plan.nodes source all.rows w v) (loaded_rows told with_worker source ≡ loaded_rows told e source ++ all.rows)
        (λ s. s.stored ∙ ap (λ rs. rs ++ all.rows) (sym (rows_are told e w there source))) all.stored);
    others = claimed told e w there ((n : ℕ) → n ≢ source → loaded_rows told with_worker n ≡ loaded_rows told e n)
        (told_claim (told w.storage.disk) (StoresRows told e.plan.nodes source all.rows w v) ((n : ℕ) → n ≢ source → loaded_rows told with_worker n ≡ loaded_rows told e n)
        (λ s. λ n far. s.others n far ∙ sym (rows_are told e w there n)) all.stored);
  }

  pub fills : {E : Type 0} (answer : Result ℕ E) (left : Option (List ℕ)) → IfOk answer (λ count. IfTold left (λ bytes. (node : Node) → node_at e.plan.nodes source ≡ Some node → StoresAll told e.plan.nodes source (rows_of_input node bytes) count w v))
      → IfOk answer (λ count. IfTold left (Loads told source count e with_worker))
  fills (Err fault) left h = tt
  fills (Ok count) None h = tt
  fills (Ok count) (Some bytes) h = loads count bytes (h is.node is.found)

pub worker_kept : {D : Type 0} (told : D → Option Blocks) (faults : D → ℕ) (w v : WorkerView D) (ts ws : List ℕ) → KeepsWorker told w v ts ws → faults w.storage.disk ≤ faults v.storage.disk → KeepsDisk told faults w.storage.disk v.storage.disk
worker_kept told faults w v ts ws keeps later = record { later = later; tells = tells_same _ (told w.storage.disk) (told v.storage.disk) keeps.storage.preserves.told }

-- it may go on, and it may be taken down
module _ {D : Type 0} (told : D → Option Blocks) (e : EngineView D) (ready : IsReady told e) (v : WorkerView D) (ts ws : List ℕ) (keeps : KeepsWorker told ready.worker v ts ws) where
  abbrev pub now_with : EngineView D
  now_with = record { plan = e.plan; allot = e.allot; phase = e.phase; pool = e.pool; worker = Some v; place = e.place; disk = e.disk; others = e.others }

  accounted_still : IsAccounted e.pool v.storage
  accounted_still = still_accounted e.pool ready.worker.storage v.storage (λ h. keeps.storage.preserves.segments h) ready.staffed.accounted

  pub ready_still : {T E : Type 0} (answer : Result T E) → OnOk answer (IsSound told e.plan v) → OnOk answer (IsReady told now_with)
  ready_still (Err fault) h = tt
  ready_still (Ok x) h = record { engine = record { serving = ready.engine.serving; size = ready.engine.size }; phase = ready.phase; worker = v; staffed = record { there = refl; sound = h; accounted = accounted_still; place = ready.staffed.place } }

  pub may_go : IsWorkerOf told e.plan v → IsReadyAt v.storage.size (view_of told v.storage) → MayBeTakenDown told now_with
  may_go sound stands = record {
    engine = record { serving = ready.engine.serving; size = ready.engine.size };
    worker = v;
    there = refl;
    sound = sound;
    accounted = accounted_still;
    beside = empty_beside told e.plan v.storage e.place ready.staffed.place stands;
  }

-- ---- the result is made

module _ {D : Type 0} (told : D → Option Blocks) (faults : D → ℕ) (e : EngineView D) (ready : IsReady told e) (v : WorkerView D) (place : LotView) (keeps : KeepsSegments told faults ready.worker.storage v.storage) where
  abbrev pub made_with : EngineView D
  made_with = record { plan = e.plan; allot = e.allot; phase = e.phase; pool = e.pool; worker = Some v; place = place; disk = e.disk; others = e.others }

  pub may_end : IsWorkerOf told e.plan v → LiesBeside told e.plan v.storage place → MayBeTakenDown told made_with
  may_end sound beside = record {
    engine = record { serving = ready.engine.serving; size = ready.engine.size };
    worker = v;
    there = refl;
    sound = sound;
    accounted = still_accounted e.pool ready.worker.storage v.storage keeps.sums ready.staffed.accounted;
    beside = beside;
  }

  inputs_held : (inputs : List Tuples) → IsLoaded told inputs e → HoldsInputs told e.plan inputs ready.worker
  inputs_held inputs loaded n = sym (rows_are told e ready.worker ready.staffed.there n) ∙ loaded n

  pub makes : {E : Type 0} (answer : Result ℕ E) → IfOk answer (λ count. MakesResult told e.plan count ready.worker v.storage.disk place) → IfOk answer (λ count. Makes told count e made_with)
  makes (Err fault) h = tt
  makes (Ok count) h = record {
    holds = h.holds;
    rows = λ inputs loaded. h.rows inputs (inputs_held inputs loaded);
    counted = claimed told e ready.worker ready.staffed.there (IsCounted (result_in e.plan (told v.storage.disk) place) count) h.counted;
  }

-- ---- the worker ends

module _ {D : Type 0} (told : D → Option Blocks) (m : EngineView D) (may : MayBeTakenDown told m) (at : Phase) (pool : PoolView) (left : Option (WorkerView D)) (none : left ≡ None) (disk : D) where
  abbrev pub without : EngineView D
  without = record { plan = m.plan; allot = m.allot; phase = at; pool = pool; worker = left; place = m.place; disk = Some disk; others = m.others }

  size_is : may.worker.storage.size ≡ m.plan.segment
  size_is = may.sound.size

  pub is_down : StaysBeside told may.worker.storage disk m.place → pool.size ≡ m.pool.size → IsAllFree pool → IsDown told without
  is_down stays size free = record {
    engine = record { serving = may.engine.serving; size = size ∙ may.engine.size };
    gone = none;
    disk = disk;
    home = refl;
    free = free;
    lies = record { bare = may.beside.bare; stands = subst (λ n. IfTold (told disk) (Stand n [] (m.place ∷ []))) size_is stays.stands };
  }

  pub takes_down : StaysBeside told may.worker.storage disk m.place → TakesDown told m without
  takes_down stays = record {
    place = refl;
    stays = λ w d there home.
        let same : may.worker ≡ w = let both : Some may.worker ≡ Some w = sym may.there ∙ there in cc in
        let one : disk ≡ d = let both : ◌≡◌ {A = Option D} (Some disk) (Some d) = home in cc in
        subst (λ (x : WorkerView D). StaysBeside told x.storage d m.place) same (subst (λ x. StaysBeside told may.worker.storage x m.place) one stays);
  }

  pub down_keeps : (faults : D → ℕ) (lots : List LotView) → LeavesDisk (faults may.worker.storage.disk) (faults disk) (told may.worker.storage.disk) (told disk) lots → pool.total ≡ m.pool.total → pool.size ≡ m.pool.size → KeepsEngine told faults m without
  down_keeps faults lots leaves total size = record {
    plan = refl;
    allot = refl;
    total = total;
    size = size;
    others = refl;
    first = subst (λ o. Both (KeepsDisk told faults) (first_disk m) (first_of o (Some disk))) (sym none) (subst (λ o. Both (KeepsDisk told faults) o (Some disk)) (sym (first_is told m may.worker may.there)) (record { later = leaves.later; tells = tells_same _ (told may.worker.storage.disk) (told disk) leaves.others }));
  }

-- ---- the result stays

module _ {D : Type 0} (told : D → Option Blocks) (m f : EngineView D) (may : MayBeTakenDown told m) (down : IsDown told f) (takes : TakesDown told m f) (plan : f.plan ≡ m.plan) where
  stays_it : StaysBeside told may.worker.storage down.disk m.place
  stays_it = takes.stays may.worker down.disk may.there down.home

  abbrev pub node : Node
  node = (the_result told m.plan may.engine.serving.rules).0

  found : node_at m.plan.nodes m.plan.result ≡ Some node
  found = (the_result told m.plan may.engine.serving.rules).1

  told_first : told_of told (first_disk m) ≡ told may.worker.storage.disk
  told_first = told_is told m may.worker may.there

  module _ (holds : HoldsResult m.plan (told_of told (first_disk m)) m.place) where
    held_some : IfTold (told may.worker.storage.disk) (HoldsSome node.schema m.place)
    held_some = subst (λ o. IfTold o (HoldsSome node.schema m.place)) told_first (holds node found)

    pub rows_still : result_rows told f ≡ result_in m.plan (told_of told (first_disk m)) m.place
    rows_still =
        ap (λ p. result_in p (told_of told f.disk) f.place) plan ∙ ap (λ o. result_in m.plan (told_of told o) f.place) down.home ∙ ap (result_in m.plan (told down.disk)) takes.place
        ∙ ap (λ o. rows_for (told down.disk) o m.place) found ∙ (stays_it.same node.schema held_some).1
        ∙ sym (ap (λ o. rows_for (told may.worker.storage.disk) o m.place) found) ∙ sym (ap (λ o. result_in m.plan o m.place) told_first)

    pub holds_still : HoldsResult f.plan (told_of told f.disk) f.place
    holds_still x there =
        let in_m : node_at m.plan.nodes m.plan.result ≡ Some x = subst (λ (p : Plan). node_at p.nodes p.result ≡ Some x) plan there in
        let one : node ≡ x = let both : Some node ≡ Some x = sym found ∙ in_m in cc in
        subst (λ l. IfTold (told_of told f.disk) (HoldsSome x.schema l)) (sym takes.place)
        (subst (λ o. IfTold (told_of told o) (HoldsSome x.schema m.place)) (sym down.home)
        (subst (λ (y : Node). IfTold (told down.disk) (HoldsSome y.schema m.place)) one (stays_it.same node.schema held_some).0))

-- ---- no iteration is served

no_turns : (inputs : Env) (nodes : List Node) (env : Env) (number : ℕ) (o : Op) → (is_source o ≡ true) ⊎ IsSome (work_of o) → turns inputs nodes env number o ≡ 0
no_turns inputs nodes env number (op.Source fields delimiter) h = refl
no_turns inputs nodes env number (op.Map input columns) h = refl
no_turns inputs nodes env number (op.Filter input test) h = refl
no_turns inputs nodes env number (op.FlatMap input branches) h = refl
no_turns inputs nodes env number (op.Union names) h = refl
no_turns inputs nodes env number (op.Distinct input) h = refl
no_turns inputs nodes env number (op.Group input key aggs combine) h = refl
no_turns inputs nodes env number (op.Top input key order count) h = refl
no_turns inputs nodes env number (op.Join left right left_key right_key columns kind left_default right_default) h = refl
no_turns inputs nodes env number (op.Cogroup left right left_key right_key left_aggs right_aggs) h = refl
no_turns inputs nodes env number (op.Probe input key columns) h = refl
no_turns inputs nodes env number (op.Bulk init bind most next until) (inl e) = cc
no_turns inputs nodes env number (op.Bulk init bind most next until) (inr some) = cc
no_turns inputs nodes env number (op.Delta solution workset bind key order merge most delta next) (inl e) = cc
no_turns inputs nodes env number (op.Delta solution workset bind key order merge most delta next) (inr some) = cc

no_moments : (inputs : Env) (all : List Node) (env : Env) (nodes : List Node) → All IsServedNode nodes → sum_by (λ (m : Moment). turns inputs all m.before m.node.number m.node.op) (moments inputs all env nodes) ≡ 0
no_moments inputs all env [] h = refl
no_moments inputs all env (node ∷ nodes) h =
    let here : turns inputs all env node.number node.op ≡ 0 = no_turns inputs all env node.number node.op (All-head IsServedNode node nodes h).op in
    let next : Env = outer_step inputs all env node in
    omega (arith, sum_by-cons (λ (m : Moment). turns inputs all m.before m.node.number m.node.op) (record { before = env; node = node }) (moments inputs all next nodes), here, no_moments inputs all next nodes (All-tail IsServedNode node nodes h))

pub no_supersteps : (plan : Plan) (inputs : List Tuples) → IsServed plan → 0 ≡ supersteps plan inputs
no_supersteps plan inputs served =
    sym (ap (λ ns. sum_by (λ (m : Moment). turns (given (source_numbers plan.nodes) inputs) plan.nodes m.before m.node.number m.node.op) (moments (given (source_numbers plan.nodes) inputs) plan.nodes [] ns)) (all_outer plan.nodes served)
    ∙ no_moments (given (source_numbers plan.nodes) inputs) plan.nodes [] plan.nodes served)

-- ---- execution

module _ {D : Type 0} (told : D → Option Blocks) (e m f : EngineView D) (ready : IsReady told e) (may : MayBeTakenDown told m) (down : IsDown told f) (takes : TakesDown told m f) (same : m.plan ≡ e.plan) (plan : f.plan ≡ m.plan) where
  pub is_done : (count : ℕ) → Makes told count e m → f.phase ≡ phase.Done → IsDone told f
  is_done count made at = record { down = down; phase = at; holds = holds_still told m f may down takes plan made.holds }

  pub executes : (count : ℕ) (ledger : Ledger) → Makes told count e m → f.pool.total ≡ e.pool.total → ledger.total ≡ f.pool.total → ledger.free ≡ length f.pool.free → Executes told e f (record { rows = count; supersteps = 0; ledger = ledger })
  executes count ledger made total all free =
      let still : result_rows told f ≡ result_in m.plan (told_of told (first_disk m)) m.place = rows_still told m f may down takes plan made.holds in record {
        rows = λ inputs loaded. still ∙ made.rows inputs loaded;
        counted = subst (λ rows. IfTold (told_of told (first_disk e)) (λ _. IsCounted rows count)) (sym still) made.counted;
        turns = λ inputs. no_supersteps e.plan inputs ready.engine.serving.served;
        ledger = ledger_is ledger (all ∙ total) (free ∙ length-free f.pool down.free ∙ total);
      }
    where
      ledger_is : (l : Ledger) → l.total ≡ e.pool.total → l.free ≡ e.pool.total → l ≡ record { total = e.pool.total; free = e.pool.total }
      ledger_is l a b = ap (λ n. with_free n l.free) a ∙ ap (with_free e.pool.total) b
        where
          with_free : ℕ → ℕ → Ledger
          with_free n k = record { total = n; free = k }

-- ---- causes of a call that took the worker down

pub load_cause_down : {T : Type 0} (before mid now file file_now : ℕ) (refused : Type 0) (answer : Result T LoadFault) → mid ≤ now → HasLoadCause before mid file file_now refused answer → HasLoadCause before now file file_now refused answer
load_cause_down before mid now file file_now refused answer grew cause = record {
  later = omega (arith, cause.later, grew);
  spill = λ worker e. ((cause.spill worker e).0, omega (arith, (cause.spill worker e).1, grew));
  read = cause.read;
  input = cause.input;
}

pub exec_cause_down : {T : Type 0} (before mid now : ℕ) (told : Option Blocks) (answer : Result T ExecFault) → mid ≤ now → HasExecCause before mid told answer → HasExecCause before now told answer
exec_cause_down before mid now told answer grew cause = record {
  spill = λ worker e. ((cause.spill worker e).0, omega (arith, (cause.spill worker e).1, grew));
  damaged = cause.damaged;
  full = cause.full;
}

-- the same, of an error as one of another type
pub exec_failed : {T S : Type 0} (before mid now : ℕ) (told : Option Blocks) (answer : Result S ExecFault) (f : ExecFault) → answer ≡ Err f → mid ≤ now → HasExecCause before mid told answer → HasExecCause {T = T} before now told (Err f)
exec_failed {T = T} {S = S} before mid now told answer f is grew cause = record {
  spill = λ worker e. let c = cause.spill worker (err_at {S = S} {T = T} answer f (exec_fault.Spill worker) is e) in (c.0, omega (arith, c.1, grew));
  damaged = λ worker block e. cause.damaged worker block (err_at {S = S} {T = T} answer f (exec_fault.Damaged worker block) is e);
  full = λ node step worker need have e. cause.full node step worker need have (err_at {S = S} {T = T} answer f (exec_fault.SolutionFull node step worker need have) is e);
}

-- ---- the result is read

module _ {D : Type 0} (told : D → Option Blocks) (faults : D → ℕ) (e : EngineView D) (done : IsDone told e) (disk : D) (home : e.disk ≡ Some disk) (now : D) (pool : PoolView) (place : LotView) (keeps : KeepsPlace told faults e.plan disk now e.place place e.pool pool) where
  abbrev pub read_with : EngineView D
  read_with = record { plan = e.plan; allot = e.allot; phase = e.phase; pool = pool; worker = e.worker; place = place; disk = Some now; others = e.others }

  pub first_down : (x : EngineView D) → x.worker ≡ None → first_disk x ≡ x.disk
  first_down x gone = ap (λ o. first_of o x.disk) gone

  pub reads_result : ReadsResult told faults e read_with
  reads_result = record {
    stands = record {
      down = record {
        engine = record { serving = done.down.engine.serving; size = keeps.size ∙ done.down.engine.size };
        gone = done.down.gone;
        disk = now;
        home = refl;
        free = keeps.free;
        lies = keeps.alone;
      };
      phase = done.phase;
      holds = keeps.holds;
    };
    same = keeps.same ∙ sym (ap (λ o. result_in e.plan (told_of told o) e.place) home);
    keeps = record {
      plan = refl;
      allot = refl;
      total = keeps.total;
      size = keeps.size;
      others = refl;
      first = subst (λ o. Both (KeepsDisk told faults) o (first_disk read_with)) (sym (first_down e done.down.gone ∙ home))
          (subst (λ o. Both (KeepsDisk told faults) (Some disk) o) (sym (first_down read_with done.down.gone)) keeps.disk);
    };
  }

-- ---- the end

pub closes_disks : {D : Type 0} (told : D → Option Blocks) (faults : D → ℕ) (e : EngineView D) (first now : D) (disks : List D) → first_disk e ≡ Some first → KeepsDisk told faults first now → disks ≡ now ∷ reverse e.others → ClosesDisks told faults e disks
closes_disks told faults e first now disks is kept all = record { first = now; kept = subst (λ o. Both (KeepsDisk told faults) o (Some now)) (sym is) kept; all = all }

pub closes_then : {D : Type 0} (told : D → Option Blocks) (faults : D → ℕ) (e m : EngineView D) (disks : List D) → KeepsEngine told faults e m → ClosesDisks told faults m disks → ClosesDisks told faults e disks
closes_then told faults e m disks keeps closes = record {
  first = closes.first;
  kept = keeps_disk_join told faults (first_disk e) (first_disk m) (Some closes.first) keeps.first closes.kept;
  all = closes.all ∙ ap (λ ds. closes.first ∷ reverse ds) keeps.others;
}

-- whether it has a worker says how it stands
pub must_be_down : {D : Type 0} (told : D → Option Blocks) (e : EngineView D) → MayBeClosed told e → is_some e.worker ≡ false → IsDown told e
must_be_down told e (inl ready) none = absurd (false≢true (sym none ∙ ap is_some ready.staffed.there))
must_be_down told e (inr down) none = down

pub must_be_ready : {D : Type 0} (told : D → Option Blocks) (e : EngineView D) → MayBeClosed told e → is_some e.worker ≡ true → IsReady told e
must_be_ready told e (inl ready) some = ready
must_be_ready told e (inr down) some = absurd (false≢true (sym (ap is_some down.gone) ∙ some))

pub ready_to_end : {D : Type 0} (told : D → Option Blocks) (e : EngineView D) (ready : IsReady told e) → IsReadyAt ready.worker.storage.size (view_of told ready.worker.storage) → MayBeTakenDown told e
ready_to_end told e ready stands = record {
  engine = ready.engine;
  worker = ready.worker;
  there = ready.staffed.there;
  sound = ready.staffed.sound.worker;
  accounted = ready.staffed.accounted;
  beside = empty_beside told e.plan ready.worker.storage e.place ready.staffed.place stands;
}

-- ---- disks in their order

pub reverse_push : {D : Type 0} (ds : List D) (d : D) → reverse (ds ++ d ∷ []) ≡ d ∷ reverse ds
reverse_push ds d = reverse-append ds (d ∷ [])

-- the first was taken off the end of all, turned round
pub disks_are : {D : Type 0} (all turned others : List D) (first : D) → turned ≡ reverse all → turned ≡ others ++ first ∷ [] → first ∷ reverse others ≡ all
disks_are all turned others first is split = sym (reverse_push others first) ∙ ap reverse (sym split ∙ is) ∙ reverse-reverse all

pub ledger_of : (l : Ledger) (total : ℕ) → l.total ≡ total → l.free ≡ total → l ≡ record { total = total; free = total }
ledger_of l total a b = ap (λ n. with_free n l.free) a ∙ ap (with_free total) b
  where
    with_free : ℕ → ℕ → Ledger
    with_free n k = record { total = n; free = k }

-- ---- a result that couldn't be read

nothing_of : (old : Option (List ℕ)) (text : List ℕ) → AppendsPrefix old old text
nothing_of old text = record { count = 0; within = omega arith; appended = none old }
  where
    none : (o : Option (List ℕ)) → Appends o o []
    none None = refl
    none (Some bytes) = ap (λ bs. Some bs) (sym (append-nil bytes))

pub prints_failed : {D T S : Type 0} (told : D → Option Blocks) (e : EngineView D) (old : Option (List ℕ)) (answer : Result S EmitFault) (f : EmitFault) → answer ≡ Err f → (IsErrOf answer emit_fault.Write → ⊥) → PrintsResult {T = T} told e (Err f) old old
prints_failed {D = D} {T = T} told e old answer f is silent = record { text = text_of (result_rows told e); is = known (told_of told (first_disk e)); written = go f is }
  where
    known : (t : Option Blocks) → IfTold t (λ _. text_of (result_rows told e) ≡ text_of (result_rows told e))
    known None = tt
    known (Some m) = refl

    go : (h : EmitFault) → answer ≡ Err h → Prints {T = T} (Err h) old old (text_of (result_rows told e))
    go emit_fault.Memory is_it = nothing_of old (text_of (result_rows told e))
    go (emit_fault.Spill worker) is_it = refl
    go (emit_fault.Damaged worker block) is_it = refl
    go emit_fault.Write is_it = absurd (silent is_it)

pub emit_failed : {T S : Type 0} (before now : ℕ) (told : Option Blocks) (out : ℕ) (lot : LotView) (answer : Result S EmitFault) (f : EmitFault) → answer ≡ Err f → HasReadingCause before now told lot answer → HasEmitCause {T = T} before now told out out lot (Err f)
emit_failed {T = T} {S = S} before now told out lot answer f is cause = record {
  later = omega arith;
  spill = λ worker e. cause.spill worker (err_at {S = S} {T = T} answer f (emit_fault.Spill worker) is e);
  damaged = λ worker block e. cause.damaged worker block (err_at {S = S} {T = T} answer f (emit_fault.Damaged worker block) is e);
  write = λ e. absurd (cause.write (err_at {S = S} {T = T} answer f emit_fault.Write is e));
}
