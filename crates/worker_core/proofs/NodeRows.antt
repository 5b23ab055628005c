-- A worker makes the rows of a node.
use Rattle.std.proofs.Common.{◌≡◌, ◌≢◌, inl, inr, ℕ, zero, suc, ◌+◌, ◌<◌, ◌≤◌, true, List, [], ◌∷◌, ◌++◌, length, take, sum_by, Result, Ok, Err, OnOk, Option, Some, None, refl, sym, ap, ◌∙◌, subst, arith, append-nil}
use Rattle.std.specs.Prelude.{slice_get, slice_index_or, IsSome}
use Rattle.std.specs.List.{flat_map}
use Rattle.std.proofs.lemmas.Bool.{cases_eq}
use Rattle.std.proofs.lemmas.List.{flat_map_more, take_more}
use Rattle.std.proofs.lemmas.List.Sums.{sum_by-cons}
use Rattle.std.proofs.lemmas.Option.{get_or_from_slice_get, slice_get_within}
use Rattle.flow_outside.specs.Blocks.{Blocks, BothTold}
use Rattle.flow_outside.specs.Told.{IfTold}
use Rattle.flow_outside.specs.declared.failure.StreamFault.{StreamFault}
use Rattle.flow_model.specs.declared.op.Op.{Op}
use Rattle.flow_model.specs.declared.op.Op.TheVariants as op
use Rattle.flow_model.specs.declared.plan.Node.{Node}
use Rattle.flow_model.specs.declared.plan.Plan.{Plan}
use Rattle.flow_model.specs.Env.{Tuples}
use Rattle.flow_model.specs.Rules.{IsPlan, node_at, references}
use Rattle.flow_model.specs.Segments.{work_minimum}
use Rattle.model_laws.specs.LawsOfPlanFits.{StatesValues}
use Rattle.lot_store.specs.Lots.{LotView, empty, held}
use Rattle.lot_store.specs.Rows.{Gains, rows_of}
use Rattle.lot_store.specs.Storage.{IsNoneOf, IsReadyAt, held_count, lot_at, rooms}
use Rattle.lot_store.proofs.LotLemmas.{on_ok_map}
use Rattle.lot_store.proofs.StorageLaws.{budget_kept, preserves_join, preserves_more, preserves_none}
use Rattle.row_pipe.specs.declared.row_pipe.RowPipe.{RowPipe}
use Rattle.row_pipe.specs.Pipes.{GivesWithin, HasPassCause}
use Rattle.row_pipe.specs.Works.{piped, taken_of, work_of}
use Rattle.row_pipe.specs.declared.work.Work.{Work}
use Rattle.row_pipe.specs.declared.work.Work.TheVariants as work
use Rattle.worker_storage.specs.Storages.{HoldsSome, KeepsStorage, MayRead, Storage, given, view_of}
use Rattle.worker_core.specs.Workers.{GoesByRow, HasPipe, HasStageCause, HoldsNodes, IsSound, IsWorkerOf, KeepsWorker, PassesOn, Stages, StagesAll, TakesFrom, WorkerView, made_of, rows_under, worker_rows}
use Rattle.worker_core.proofs.PlanFacts.{Link, found_low, found_number, link}
use Rattle.worker_core.proofs.Passing.{holds_after, one_node, passes_on}
use Rattle.worker_core.proofs.Widths.{within_reach}

-- ---- lots that rest

sum_below : (f g : LotView → ℕ) (lots : List LotView) → ((i : ℕ) (d : LotView) → i < length lots → f (lot_at lots i d) ≤ g (lot_at lots i d)) → sum_by f lots ≤ sum_by g lots
sum_below f g [] h = omega arith
sum_below f g (lot ∷ lots) h =
    omega (arith, sum_by-cons f lot lots, sum_by-cons g lot lots, h 0 lot (omega arith), sum_below f g lots (λ i d low. h (suc i) d (omega (arith, low))))

-- Where all rest, the purse has what an operator needs.
pub supplied : {D : Type 0} (told : D → Option Blocks) (plan : Plan) (w : WorkerView D) → IsWorkerOf told plan w → work_minimum plan ≤ length w.storage.purse.pages
supplied told plan w worker =
    let budget : work_minimum plan + rooms w.storage.lots ≤ length w.storage.purse.pages + held_count w.storage.lots = worker.budget in
    omega (arith, budget, sum_below (λ lot. length (held lot)) (λ lot. lot.stored.room) w.storage.lots worker.rests)

-- ---- one pass

module _ {D : Type 0} (told : D → Option Blocks) (plan : Plan) (rules : IsPlan plan) (values : StatesValues plan) (from to : ℕ) (w : WorkerView D) (sound : IsSound told plan w) (takes : TakesFrom plan.nodes to from) where
  number : takes.node.number ≡ to
  number = found_number plan.nodes to takes.node takes.found

  found : node_at plan.nodes takes.node.number ≡ Some takes.node
  found = ap (node_at plan.nodes) number ∙ takes.found

  linked : (v : Work) → Some v ≡ work_of takes.node.op → Link plan.nodes takes.node v from
  linked v is = link plan takes.node v from takes.index rules values found takes.outer is takes.low takes.is

  pub the_pipe : HasPipe w.pipes takes.node
  the_pipe = sound.worker.pipes takes.node found takes.some

  pub pipe_there : slice_get w.pipes to ≡ Some (Some the_pipe.pipe)
  pipe_there = ap (slice_get w.pipes) (sym number) ∙ the_pipe.there

  pub pipe_low : to < length w.pipes
  pipe_low = slice_get_within w.pipes to (Some the_pipe.pipe) pipe_there

  -- what is found at its place is the pipe
  pub pipe_is : (found_there : Option RowPipe) (p : RowPipe) → found_there ≡ slice_index_or w.pipes to found_there → found_there ≡ Some p → p ≡ the_pipe.pipe
  pipe_is found_there p at is =
      let e : Some p ≡ Some the_pipe.pipe = sym is ∙ at ∙ get_or_from_slice_get w.pipes to (Some the_pipe.pipe) found_there pipe_there in cc

  pub never_none : (found_there : Option RowPipe) → found_there ≡ slice_index_or w.pipes to found_there → found_there ≡ None → ⊥
  never_none found_there at is =
      let e : None ≡ Some the_pipe.pipe = sym is ∙ at ∙ get_or_from_slice_get w.pipes to (Some the_pipe.pipe) found_there pipe_there in cc

  the_link : Link plan.nodes takes.node the_pipe.pipe.work from
  the_link = linked the_pipe.pipe.work the_pipe.does.work

  pub to_low : to < length w.storage.lots
  to_low = omega (arith, the_link.low, number, sound.worker.count)

  pub from_low : from < length w.storage.lots
  from_low = omega (arith, the_link.before, number, to_low)

  pub apart : from ≢ to
  apart is = omega (arith, is, number, the_link.before)

  pub may_read : (d : LotView) → MayRead w.storage.purse (lot_at w.storage.lots from d)
  may_read d = record {
    supply = omega (arith, supplied told plan w sound.worker, sound.worker.reach from d from_low);
    rests = sound.worker.rests from d from_low;
  }

  pub is_within : (p : RowPipe) → p ≡ the_pipe.pipe → (d : LotView) → GivesWithin p.takes p.work w.storage.size (lot_at w.storage.lots to d).feed.reach
  is_within p is d =
      subst (λ (r : RowPipe). GivesWithin r.takes r.work w.storage.size (lot_at w.storage.lots to d).feed.reach) (sym is)
      (subst (λ n. GivesWithin the_pipe.pipe.takes the_pipe.pipe.work n (lot_at w.storage.lots to d).feed.reach) (sym sound.worker.size)
      (subst (λ n. GivesWithin the_pipe.pipe.takes the_pipe.pipe.work plan.segment n) (sym (sound.worker.reach to d to_low))
      (within_reach plan the_pipe.pipe.takes the_pipe.pipe.work to takes.node rules.segment takes.found the_pipe.does.narrow)))

  pub holds_taken : (p : RowPipe) → p ≡ the_pipe.pipe → (d : LotView) → IfTold (told w.storage.disk) (HoldsSome p.takes (lot_at w.storage.lots from d))
  holds_taken p is d =
      subst (λ (r : RowPipe). IfTold (told w.storage.disk) (HoldsSome r.takes (lot_at w.storage.lots from d))) (sym is)
      (subst (λ fields. IfTold (told w.storage.disk) (HoldsSome fields (lot_at w.storage.lots from d))) (sym the_pipe.does.takes)
      (subst (λ n. IfTold (told w.storage.disk) (HoldsSome (taken_of takes.node) (lot_at w.storage.lots n d))) the_link.number
      (wider (told w.storage.disk) (lot_at w.storage.lots the_link.input.number d) (one_node plan.nodes w.storage.lots (told w.storage.disk) the_link.input d (ap (node_at plan.nodes) the_link.number ∙ the_link.found) sound.holds))))
    where
      wider : (t : Option Blocks) (lot : LotView) → IfTold t (HoldsSome the_link.input.schema lot) → IfTold t (HoldsSome (taken_of takes.node) lot)
      wider None lot h = tt
      wider (Some m) lot (rows, h) = (rows, record { records = h.records; fitting = the_link.taken rows h.fitting })

  -- and what is so afterwards
  module _ (s : Storage D) (ready : IsReadyAt w.storage.size (view_of told w.storage)) (keeps : KeepsStorage told w.storage s (from ∷ to ∷ []) (to ∷ []) true) where
    now : WorkerView D
    now = record { me = w.me; workers = w.workers; storage = s; pipes = w.pipes }

    pub worker_after : ((d : LotView) → length (held (lot_at s.lots from d)) ≤ (lot_at s.lots from d).stored.room) → ((d : LotView) → length (held (lot_at s.lots to d)) ≤ (lot_at s.lots to d).stored.room)
        → IsWorkerOf told plan (record { me = w.me; workers = w.workers; storage = s; pipes = w.pipes })
    worker_after read written = record {
      count = keeps.preserves.count ∙ sound.worker.count;
      size = keeps.size ∙ sound.worker.size;
      reach = λ i d low. keeps.preserves.reach i d ∙ sound.worker.reach i d (omega (arith, low, keeps.preserves.count));
      rests = λ i d low. elim (cases_eq i to) [
        | inl at ↦ subst (λ k. length (held (lot_at s.lots k d)) ≤ (lot_at s.lots k d).stored.room) (sym at) (written d)
        | inr far ↦ elim (cases_eq i from) [
          | inl at ↦ subst (λ k. length (held (lot_at s.lots k d)) ≤ (lot_at s.lots k d).stored.room) (sym at) (read d)
          | inr away ↦ subst (λ (lot : LotView). length (held lot) ≤ lot.stored.room) (sym (keeps.preserves.same i d (away, (far, tt)))) (sound.worker.rests i d (omega (arith, low, keeps.preserves.count)))
        ]
      ];
      bare = λ d. keeps.preserves.rooms plan.result d ∙ sound.worker.bare d;
      budget = budget_kept (view_of told w.storage) (view_of told s) (from ∷ to ∷ []) (to ∷ []) true (work_minimum plan) keeps.preserves sound.worker.budget;
      pipes = sound.worker.pipes;
    }

    pub kept_after : KeepsWorker told w (record { me = w.me; workers = w.workers; storage = s; pipes = w.pipes }) (from ∷ to ∷ []) (to ∷ [])
    kept_after = record { me = refl; workers = refl; pipes = refl; storage = keeps }

    module _ (p : RowPipe) (is : p ≡ the_pipe.pipe)
        (gains : (d : LotView) → BothTold (told w.storage.disk) (told s.disk) (Gains (lot_at w.storage.lots to d) (lot_at s.lots to d) (given p.takes p.work (rows_of (told w.storage.disk) (lot_at w.storage.lots from d))))) where
      gains_here : (d : LotView) → BothTold (told w.storage.disk) (told s.disk) (Gains (lot_at w.storage.lots takes.node.number d) (lot_at s.lots takes.node.number d) (given (taken_of takes.node) the_pipe.pipe.work (rows_of (told w.storage.disk) (lot_at w.storage.lots from d))))
      gains_here d =
          subst (λ n. BothTold (told w.storage.disk) (told s.disk) (Gains (lot_at w.storage.lots n d) (lot_at s.lots n d) (given (taken_of takes.node) the_pipe.pipe.work (rows_of (told w.storage.disk) (lot_at w.storage.lots from d))))) (sym number)
          (subst (λ fields. BothTold (told w.storage.disk) (told s.disk) (Gains (lot_at w.storage.lots to d) (lot_at s.lots to d) (given fields the_pipe.pipe.work (rows_of (told w.storage.disk) (lot_at w.storage.lots from d))))) the_pipe.does.takes
          (subst (λ (r : RowPipe). BothTold (told w.storage.disk) (told s.disk) (Gains (lot_at w.storage.lots to d) (lot_at s.lots to d) (given r.takes r.work (rows_of (told w.storage.disk) (lot_at w.storage.lots from d))))) is (gains d)))

      keeps_here : KeepsStorage told w.storage s (from ∷ takes.node.number ∷ []) (takes.node.number ∷ []) true
      keeps_here = subst (λ n. KeepsStorage told w.storage s (from ∷ n ∷ []) (n ∷ []) true) (sym number) keeps

      all_low : (x : Node) → node_at plan.nodes x.number ≡ Some x → x.number < length w.storage.lots
      all_low x there = omega (arith, found_low 1 plan.nodes x.number x rules.numbers there, sound.worker.count)

      pub held_after : IfTold (told s.disk) (HoldsNodes plan.nodes s.lots)
      held_after = holds_after told plan.nodes takes.node the_pipe.pipe.work from the_link found w.storage s ready all_low keeps_here sound.holds gains_here

      pub passed : (o : Node) (v : Work) → node_at plan.nodes to ≡ Some o → Some v ≡ work_of o.op → PassesOn told plan.nodes from to v w.storage s
      passed o v there does =
          let same : takes.node ≡ o = let both : Some takes.node ≡ Some o = sym takes.found ∙ there in cc in
          let work_same : the_pipe.pipe.work ≡ v = let both : Some the_pipe.pipe.work ≡ Some v = the_pipe.does.work ∙ ap (λ (x : Node). work_of x.op) same ∙ sym does in cc in
          subst (λ u. PassesOn told plan.nodes from to u w.storage s) work_same
          (subst (λ n. PassesOn told plan.nodes from n the_pipe.pipe.work w.storage s) number
          (passes_on told plan.nodes takes.node the_pipe.pipe.work from the_link found w.storage s ready all_low keeps_here sound.holds gains_here))

      pub sound_after : ((d : LotView) → length (held (lot_at s.lots from d)) ≤ (lot_at s.lots from d).stored.room) → ((d : LotView) → length (held (lot_at s.lots to d)) ≤ (lot_at s.lots to d).stored.room)
          → IsSound told plan (record { me = w.me; workers = w.workers; storage = s; pipes = w.pipes })
      sound_after read written = record { worker = worker_after read written; holds = held_after }

-- Whatever the answer.
on_ok_all : {T E X : Type 0} (r : Result T E) (P : X → Type 0) → ((x : X) → OnOk r (P x)) → OnOk r ((x : X) → P x)
on_ok_all (Ok v) P h = h
on_ok_all (Err e) P h = tt

pub when_ok : {T E X : Type 0} (r : Result T E) (P : X → Type 0) (Q : Type 0) → (((x : X) → P x) → Q) → ((x : X) → OnOk r (P x)) → OnOk r Q
when_ok r P Q f h = on_ok_map r ((x : _) → P x) Q f (on_ok_all r P h)

pub cause_of : {D : Type 0} (first last : ℕ) (was : Option Blocks) (s : Storage D) (from : ℕ) (answer : Result Unit StreamFault) → ((d : LotView) → HasPassCause first last was (lot_at s.lots from d) answer) → HasStageCause first last was s answer
cause_of first last was s from answer h = record { cause = (h (empty 0 0)).cause; damaged = λ block is. (from, (h (empty 0 0)).damaged block is) }

-- ---- one input after the other

keeps_then : {D : Type 0} (told : D → Option Blocks) (a b c : Storage D) (ts ws : List ℕ) → KeepsStorage told a b ts ws true → KeepsStorage told b c ts ws true → KeepsStorage told a c ts ws true
keeps_then told a b c ts ws f g = record { size = g.size ∙ f.size; preserves = preserves_join (view_of told a) (view_of told b) (view_of told c) ts ws true f.preserves g.preserves }

-- none of a list's places is none of those at its places
none_of : (i : ℕ) (ns : List ℕ) (k : ℕ) → IsNoneOf i ns → k < length ns → i ≢ slice_index_or ns k 0
none_of i [] k none low = absurd (omega (arith, low))
none_of i (n ∷ ns) zero none low = none.0
none_of i (n ∷ ns) (suc k) none low = none_of i ns k none.1 (omega (arith, low))

keeps_wider : {D : Type 0} (told : D → Option Blocks) (a b : Storage D) (from to k : ℕ) (inputs : List ℕ) → k < length inputs → slice_index_or inputs k 0 ≡ from → KeepsStorage told a b (from ∷ to ∷ []) (to ∷ []) true → KeepsStorage told a b (to ∷ inputs) (to ∷ []) true
keeps_wider told a b from to k inputs low is f = record {
  size = f.size;
  preserves = preserves_more (view_of told a) (view_of told b) (from ∷ to ∷ []) (to ∷ []) (to ∷ inputs) (to ∷ []) true true
      (λ i none. (subst (λ n. i ≢ n) is (none_of i inputs k none.1 low), (none.0, tt))) (λ i none. none) (λ is. is) f.preserves;
}

pub kept_nothing : {D : Type 0} (told : D → Option Blocks) (w : WorkerView D) (places written : List ℕ) → KeepsWorker told w w places written
kept_nothing told w places written = record {
  me = refl;
  workers = refl;
  pipes = refl;
  storage = record { size = refl; preserves = preserves_more (view_of told w.storage) (view_of told w.storage) [] [] places written true true (λ i none. tt) (λ i none. tt) (λ is. is) (preserves_none (view_of told w.storage)) };
}

pub kept_turn : {D : Type 0} (told : D → Option Blocks) (w v u : WorkerView D) (from to k : ℕ) (inputs : List ℕ) → k < length inputs → slice_index_or inputs k 0 ≡ from → KeepsWorker told w v (to ∷ inputs) (to ∷ []) → KeepsWorker told v u (from ∷ to ∷ []) (to ∷ []) → KeepsWorker told w u (to ∷ inputs) (to ∷ [])
kept_turn told w v u from to k inputs low is f g = record {
  me = g.me ∙ f.me;
  workers = g.workers ∙ f.workers;
  pipes = g.pipes ∙ f.pipes;
  storage = keeps_then told w.storage v.storage u.storage (to ∷ inputs) (to ∷ []) f.storage (keeps_wider told v.storage u.storage from to k inputs low is g.storage);
}

pub staged_none : {D : Type 0} (told : D → Option Blocks) (nodes : List Node) (to : ℕ) (v : Work) (a : Storage D) → StagesAll told nodes [] to v a a
staged_none told nodes to v a = record { made = sym (append-nil (rows_under told a (node_at nodes to))); others = λ n far. refl }

-- A turn: the rows that are held of the input are those that were held at the start, since it isn't the node.
pub staged_turn : {D : Type 0} (told : D → Option Blocks) (nodes : List Node) (to from index : ℕ) (inputs : List ℕ) (v : Work) (a b c : Storage D) → from ≢ to → index < length inputs → slice_index_or inputs index 0 ≡ from
    → StagesAll told nodes (take index inputs) to v a b → PassesOn told nodes from to v b c → StagesAll told nodes (take (index + 1) inputs) to v a c
staged_turn told nodes to from index inputs v a b c far low is f g =
    let rows : ℕ → Tuples = λ n. piped v (rows_under told a (node_at nodes n)) in
    let more : take (index + 1) inputs ≡ take index inputs ++ from ∷ [] = take_more inputs index 0 low ∙ ap (λ n. take index inputs ++ n ∷ []) is in
    record {
      made = g.made ∙ ap (λ rs. rs ++ piped v (rows_under told b (node_at nodes from))) f.made
          ∙ ap (λ rs. (rows_under told a (node_at nodes to) ++ flat_map rows (take index inputs)) ++ piped v rs) (f.others from far)
          ∙ flat_map_more rows (rows_under told a (node_at nodes to)) (take index inputs) from
          ∙ sym (ap (λ ns. rows_under told a (node_at nodes to) ++ flat_map rows ns) more);
      others = λ n other. g.others n other ∙ f.others n other;
    }

-- What an op makes that goes row by row, is what it makes of each of its inputs.
made_inputs : (rows : ℕ → Tuples) (o : Op) (v : Work) → Some v ≡ work_of o → flat_map (λ n. piped v (rows n)) (references o) ≡ made_of rows o
made_inputs rows (op.Map input columns) v e = let same : work.Map columns ≡ v = cc in subst (λ u. flat_map (λ n. piped u (rows n)) (input ∷ []) ≡ made_of rows (op.Map input columns)) same (append-nil (piped (work.Map columns) (rows input)))
made_inputs rows (op.Filter input test) v e = let same : work.Filter test ≡ v = cc in subst (λ u. flat_map (λ n. piped u (rows n)) (input ∷ []) ≡ made_of rows (op.Filter input test)) same (append-nil (piped (work.Filter test) (rows input)))
made_inputs rows (op.FlatMap input branches) v e = let same : work.FlatMap branches ≡ v = cc in subst (λ u. flat_map (λ n. piped u (rows n)) (input ∷ []) ≡ made_of rows (op.FlatMap input branches)) same (append-nil (piped (work.FlatMap branches) (rows input)))
made_inputs rows (op.Union names) v e = let same : work.Pass ≡ v = cc in subst (λ u. flat_map (λ n. piped u (rows n)) names ≡ flat_map rows names) same refl
made_inputs rows (op.Source types delimiter) v e = cc
made_inputs rows (op.Distinct input) v e = cc
made_inputs rows (op.Group input key aggs combine) v e = cc
made_inputs rows (op.Top input key order count) v e = cc
made_inputs rows (op.Join left right left_key right_key columns kind left_default right_default) v e = cc
made_inputs rows (op.Cogroup left right left_key right_key left_aggs right_aggs) v e = cc
made_inputs rows (op.Bulk init bind most next until) v e = cc
made_inputs rows (op.Delta solution workset bind key order merge most delta next) v e = cc
made_inputs rows (op.Probe input key columns) v e = cc

pub stages_of : {D : Type 0} (told : D → Option Blocks) (nodes : List Node) (to : ℕ) (o : Op) (v : Work) (w u : WorkerView D) → Some v ≡ work_of o → StagesAll told nodes (references o) to v w.storage u.storage → Stages told nodes to o w u
stages_of told nodes to o v w u e f = record {
  made = f.made ∙ ap (λ rs. worker_rows told nodes w to ++ rs) (made_inputs (worker_rows told nodes w) o v e);
  others = f.others;
}

-- an op that goes row by row has a work
pub some_work : (o : Op) → IsSome (work_of o) → (v : Work) × (Some v ≡ work_of o)
some_work o some = go (work_of o) refl some
  where
    go : (x : Option Work) → work_of o ≡ x → IsSome x → (v : Work) × (Some v ≡ work_of o)
    go None e h = cc
    go (Some v) e h = (v, sym e)

-- ---- the loop and its end

pub takes_of : (nodes : List Node) (to : ℕ) (inputs : List ℕ) (k : ℕ) (r : GoesByRow nodes to) → inputs ≡ references r.node.op → k < length inputs → TakesFrom nodes to (slice_index_or inputs k 0)
takes_of nodes to inputs k r e low = record {
  node = r.node;
  found = r.found;
  outer = r.outer;
  some = r.some;
  index = k;
  low = subst (λ ns. k < length ns) e low;
  is = ap (λ ns. slice_index_or ns k 0) (sym e);
}

pub stages_end : {D : Type 0} {T E : Type 0} (told : D → Option Blocks) (r : Result T E) (nodes : List Node) (number : ℕ) (inputs : List ℕ) (w u : WorkerView D) (rule : GoesByRow nodes number) → inputs ≡ references rule.node.op
    → OnOk r ((o : Node) (v : Work) → node_at nodes number ≡ Some o → Some v ≡ work_of o.op → StagesAll told nodes inputs number v w.storage u.storage)
    → OnOk r ((o : Node) → node_at nodes number ≡ Some o → Stages told nodes number o.op w u)
stages_end told (Err e) nodes number inputs w u rule is h = tt
stages_end told (Ok x) nodes number inputs w u rule is h = λ o there.
    let same : rule.node ≡ o = let both : Some rule.node ≡ Some o = sym rule.found ∙ there in cc in
    let does = some_work rule.node.op rule.some in
    subst (λ (m : Node). Stages told nodes number m.op w u) same
    (stages_of told nodes number rule.node.op does.0 w u does.1
    (subst (λ ns. StagesAll told nodes ns number does.0 w.storage u.storage) is (h rule.node does.0 rule.found does.1)))

-- A worker's purse is never empty.
pub some_supply : {D : Type 0} (told : D → Option Blocks) (plan : Plan) (w : WorkerView D) → IsWorkerOf told plan w → 0 < length w.storage.purse.pages
some_supply told plan w worker = omega (arith, supplied told plan w worker)
