-- The lot of the result is taken out of a worker.
use Rattle.std.proofs.Common.{◌≡◌, ℕ, zero, suc, ◌+◌, ◌-◌, ◌^◌, ◌<◌, ◌≤◌, true, All, List, [], ◌∷◌, ◌++◌, length, min, sum_by, Result, Ok, Err, Option, Some, None, refl, sym, ap, ◌∙◌, subst, arith, is_some, ◌==◌}
use Rattle.std.specs.Prelude.{IfOk, IsSome, slice_index_or}
use Rattle.std.proofs.lemmas.List.Elements.{All-nil}
use Rattle.std.proofs.lemmas.List.Sums.{sum_by-append, sum_by-cons, sum_by-set}
use Rattle.segment_core.specs.Segments.{SegmentView, count_other_size, segment_sum}
use Rattle.flow_outside.specs.Blocks.{Blocks, BothTold}
use Rattle.flow_outside.specs.Told.{IfTold}
use Rattle.flow_outside.specs.declared.failure.StreamFault.{StreamFault}
use Rattle.flow_outside.specs.declared.failure.StreamFault.TheVariants as stream_fault
use Rattle.flow_types.specs.Records.{IsTupleOf}
use Rattle.flow_types.specs.Types.{Fields}
use Rattle.flow_model.specs.declared.plan.Node.{Node}
use Rattle.flow_model.specs.declared.plan.Plan.{Plan}
use Rattle.flow_model.specs.Algebra.{eval}
use Rattle.flow_model.specs.Env.{Tuples}
use Rattle.flow_model.specs.Rules.{IsPlan, node_at}
use Rattle.flow_model.specs.Segments.{reach}
use Rattle.lot_store.specs.Lots.{LotView, empty, held}
use Rattle.lot_store.specs.Storage.{IsReadyAt, Stand, StandsAt, StorageView, lot_at, times_in}
use Rattle.lot_store.proofs.StorageLaws.{preserves_more}
use Rattle.lot_store.proofs.Telling.{told_weaker}
use Rattle.worker_storage.specs.Storages.{HoldsSome, Storage, all_places, view_of, with_lot}
use Rattle.worker_core.specs.Workers.{HasStageCause, HoldsTheSame, IsSound, KeepsWorker, MayTakeItsPlace, TakesItsPlace, WorkerView, rows_under, tuples_in, worker_rows}
use Rattle.worker_core.proofs.Passing.{one_node}
use Rattle.worker_core.proofs.PlanFacts.{found_low, found_number}
use Rattle.superstep.specs.Executing.{HasExecCause, HoldsResult, IsBare, IsCounted, KeepsDisk, KeepsSegments, LiesBeside, MakesResult, MakesRows, of_stream, result_in, rows_for}
use Rattle.superstep.specs.Opening.{worker_sum}
use Rattle.superstep.specs.Outer.{HoldsInputs, KeepsAll}
use Rattle.superstep.specs.declared.faults.ExecFault.{ExecFault}
use Rattle.superstep.specs.declared.faults.ExecFault.TheVariants as fault
use Rattle.superstep.proofs.Making.{none_of_all, result_found}

-- ---- a lot that holds nothing

sum_more : (f : LotView → ℕ) (ys : List LotView) (l : LotView) → sum_by f (ys ++ l ∷ []) ≡ sum_by f ys + f l
sum_more f ys l = omega (arith, sum_by-append f ys (l ∷ []), sum_by-cons f l [])

empty_stands : (size r : ℕ) (m : Blocks) → StandsAt size m (empty 0 r)
empty_stands size r m = record { spilled = tt; reads = λ block left. absurd left }

each_more : (size r : ℕ) (m : Blocks) (ys : List LotView) → All (StandsAt size m) ys → (k : ℕ) (d : LotView) → k < length (ys ++ empty 0 r ∷ []) → StandsAt size m (lot_at (ys ++ empty 0 r ∷ []) k d)
each_more size r m [] all zero d low = empty_stands size r m
each_more size r m [] all (suc k) d low = absurd (omega (arith, low))
each_more size r m (y ∷ ys) all zero d low = all 0 d (omega arith)
each_more size r m (y ∷ ys) all (suc k) d low = each_more size r m ys (λ i e less. all (suc i) e (omega (arith, less))) k d (omega (arith, low))

-- It lies beside whatever stands.
pub empty_lies : (size r : ℕ) (view : StorageView) → IsReadyAt size view → IsReadyAt size (with_lot (empty 0 r) view)
empty_lies size r view ready = record {
  room = omega (arith, ready.room, sum_more (λ (lot : LotView). length (held lot)) view.lots (empty 0 r));
  stand = told_weaker view.told (Stand size view.purse.pages view.lots) (Stand size view.purse.pages (view.lots ++ empty 0 r ∷ [])) (λ m s. record {
    sized = omega (arith, s.sized, sum_more (λ (lot : LotView). count_other_size size (held lot)) view.lots (empty 0 r));
    each = each_more size r m view.lots s.each;
    apart = λ block. omega (arith, s.apart block, sum_more (times_in m block) view.lots (empty 0 r));
  }) ready.stand;
}

pub empty_beside : {D : Type 0} (told : D → Option Blocks) (plan : Plan) (s : Storage D) (lot : LotView) → lot ≡ empty 0 (reach plan) → IsReadyAt s.size (view_of told s) → LiesBeside told plan s lot
empty_beside told plan s lot is ready =
    subst (LiesBeside told plan s) (sym is) (record { bare = record { none = refl; room = refl; reach = refl }; stands = empty_lies s.size (reach plan) (view_of told s) ready })

holds_none : (fields : Fields) (r : ℕ) (m : Blocks) → HoldsSome fields (empty 0 r) m
holds_none fields r m = ([], record { records = record { bytes = refl; lengths = All-nil (λ row. length row < 2 ^ 32); reach = tt }; fitting = All-nil (IsTupleOf fields) })

none_known : (t : Option Blocks) (fields : Fields) (r : ℕ) → IfTold t (HoldsSome fields (empty 0 r))
none_known None fields r = tt
none_known (Some m) fields r = holds_none fields r m

none_there : (pages : List SegmentView) → length pages ≤ 0 → pages ≡ []
none_there [] low = refl
none_there (p ∷ pages) low = absurd (omega (arith, low))

-- ---- the result's lot

some_is : (o : Option Node) (node : Node) → o ≡ Some node → IsSome o
some_is None node e = cc
some_is (Some x) node e = refl

module _ {D : Type 0} (told : D → Option Blocks) (plan : Plan) (rules : IsPlan plan) where
  pub the_result : (node : Node) × (node_at plan.nodes plan.result ≡ Some node)
  the_result = result_found plan.nodes plan.result (λ (m : Node). m.home == 0) rules.result

  pub result_there : IsSome (node_at plan.nodes plan.result)
  result_there = some_is (node_at plan.nodes plan.result) the_result.0 the_result.1

  -- an empty lot may take its place
  pub may_take : (w : WorkerView D) (lot : LotView) → lot ≡ empty 0 (reach plan) → IsReadyAt w.storage.size (view_of told w.storage) → MayTakeItsPlace told plan plan.result w lot
  may_take w lot is ready = subst (MayTakeItsPlace told plan plan.result w) (sym is) (record {
    stands = empty_lies w.storage.size (reach plan) (view_of told w.storage) ready;
    room = refl;
    none = refl;
    reach = refl;
    node = the_result.0;
    found = the_result.1;
    holds = none_known (told w.storage.disk) the_result.0.schema (reach plan);
  })

  module _ (w v : WorkerView D) (sound : IsSound told plan w) (empty_lot lot : LotView) (is : empty_lot ≡ empty 0 (reach plan)) (takes : TakesItsPlace told plan.nodes plan.result empty_lot w v)
      (given : (d : LotView) → lot ≡ lot_at w.storage.lots plan.result d) where
    low : plan.result < length w.storage.lots
    low = omega (arith, found_low 1 plan.nodes plan.result the_result.0 rules.numbers the_result.1, sound.worker.count)

    bare : IsBare plan lot
    bare = record {
      none = none_there (held lot) (omega (arith, ap (λ (l : LotView). length (held l)) (given lot), sound.worker.rests plan.result lot low, sound.worker.bare lot));
      room = ap (λ (l : LotView). l.stored.room) (given lot) ∙ sound.worker.bare lot;
      reach = ap (λ (l : LotView). l.feed.reach) (given lot) ∙ sound.worker.reach plan.result lot low;
    }

    pub lies : IsReadyAt v.storage.size (with_lot lot (view_of told v.storage)) → LiesBeside told plan v.storage lot
    lies stands = record { bare = bare; stands = stands }

    pub same_disk : v.storage.disk ≡ w.storage.disk
    same_disk = ap (λ (x : WorkerView D). x.storage.disk) takes.rest

    -- the rows are those that the worker held
    pub rows_are_held : result_in plan (told v.storage.disk) lot ≡ worker_rows told plan.nodes w plan.result
    rows_are_held =
        ap (λ o. rows_for (told v.storage.disk) o lot) the_result.1
        ∙ ap (λ d. tuples_in the_result.0.schema (told d) lot) same_disk
        ∙ ap (tuples_in the_result.0.schema (told w.storage.disk)) (given (empty 0 0))
        ∙ sym (ap (rows_under told w.storage) the_result.1 ∙ ap (λ k. tuples_in the_result.0.schema (told w.storage.disk) (lot_at w.storage.lots k (empty 0 0))) (found_number plan.nodes plan.result the_result.0 the_result.1))

    pub holds_still : HoldsResult plan (told v.storage.disk) lot
    holds_still node found =
        subst (λ d. IfTold (told d) (HoldsSome node.schema lot)) (sym same_disk)
        (subst (λ l. IfTold (told w.storage.disk) (HoldsSome node.schema l)) (sym (given (empty 0 0)))
        (subst (λ k. IfTold (told w.storage.disk) (HoldsSome node.schema (lot_at w.storage.lots k (empty 0 0)))) number
        (one_node plan.nodes w.storage.lots (told w.storage.disk) node (empty 0 0) (ap (node_at plan.nodes) number ∙ found) sound.holds)))
      where
        number : node.number ≡ plan.result
        number = found_number plan.nodes plan.result node found

    weighs_none : (h : ℕ → ℕ → ℕ) → segment_sum h (held (lot_at w.storage.lots plan.result (empty 0 0))) ≡ 0
    weighs_none h = ap (λ (l : LotView). segment_sum h (held l)) (sym (given (empty 0 0))) ∙ ap (segment_sum h) bare.none

    pub sums_still : (h : ℕ → ℕ → ℕ) → worker_sum h v.storage ≡ worker_sum h w.storage
    sums_still h =
        ap (λ (x : WorkerView D). worker_sum h x.storage) takes.rest
        ∙ omega (arith, sum_by-set (λ (l : LotView). segment_sum h (held l)) w.storage.lots plan.result empty_lot (empty 0 0) low, weighs_none h, ap (λ (l : LotView). segment_sum h (held l)) is)

-- ---- what is made

-- the result is one of the numbers
pub result_low : (plan : Plan) (node : Node) → IsPlan plan → node_at plan.nodes plan.result ≡ Some node → plan.result < suc (length plan.nodes)
result_low plan node rules found = omega (arith, found_low 1 plan.nodes plan.result node rules.numbers found)

pub makes_result : {D : Type 0} (told : D → Option Blocks) (plan : Plan) (count : ℕ) (w v : WorkerView D) (disk : D) (lot : LotView) → MakesRows told plan count w v → HoldsResult plan (told disk) lot → result_in plan (told disk) lot ≡ worker_rows told plan.nodes v plan.result
    → MakesResult told plan count w disk lot
makes_result told plan count w v disk lot made holds same = record {
  holds = holds;
  rows = λ inputs held. same ∙ made.rows inputs held;
  counted = subst (λ rows. IfTold (told w.storage.disk) (λ _. IsCounted rows count)) (sym same) made.counted;
}

still_counted : (C : Blocks → Blocks → Type 0) (count : ℕ) (rows now : Tuples) (t u : Option Blocks) → now ≡ rows → BothTold t u C → IfTold u (λ _. count ≡ min (length rows) (2 ^ 64 - 1)) → IfTold t (λ _. IsCounted now count)
still_counted C count rows now None y same both c = tt
still_counted C count rows now (Some m) None same both c = absurd both
still_counted C count rows now (Some m) (Some n) same both c = c ∙ ap (λ rs. min (length rs) (2 ^ 64 - 1)) (sym same)

-- The rows were counted that a worker held after all was made.
pub rows_made : {D : Type 0} {E : Type 0} (told : D → Option Blocks) (plan : Plan) (answer : Result ℕ E) (w v u : WorkerView D) → KeepsAll told plan w v
    → ((inputs : List Tuples) → HoldsInputs told plan inputs w → worker_rows told plan.nodes v plan.result ≡ eval plan inputs)
    → HoldsTheSame told plan.nodes v u → IfOk answer (λ count. IfTold (told v.storage.disk) (λ _. count ≡ min (length (worker_rows told plan.nodes v plan.result)) (2 ^ 64 - 1)))
    → IfOk answer (λ count. MakesRows told plan count w u)
rows_made told plan (Err e) w v u keeps rows same counted = tt
rows_made told plan (Ok count) w v u keeps rows same counted = record {
  rows = λ inputs held. same plan.result ∙ rows inputs held;
  counted = still_counted _ count (worker_rows told plan.nodes v plan.result) (worker_rows told plan.nodes u plan.result) (told w.storage.disk) (told v.storage.disk) (same plan.result) keeps.storage.preserves.told counted;
}

-- ---- what is kept

pub tells_same : (C : Blocks → Blocks → Type 0) (t u : Option Blocks) → BothTold t u C → is_some u ≡ is_some t
tells_same C None None both = refl
tells_same C None (Some n) both = absurd both
tells_same C (Some m) None both = absurd both
tells_same C (Some m) (Some n) both = refl

pub keeps_segments : {D : Type 0} (told : D → Option Blocks) (faults : D → ℕ) (plan : Plan) (w v : WorkerView D) → KeepsAll told plan w v → faults w.storage.disk ≤ faults v.storage.disk → KeepsSegments told faults w.storage v.storage
keeps_segments told faults plan w v keeps later = record {
  sums = λ h. keeps.storage.preserves.segments h;
  disk = record { later = later; tells = tells_same _ (told w.storage.disk) (told v.storage.disk) keeps.storage.preserves.told };
}

-- The lot was taken out afterwards.
pub keeps_on : {D : Type 0} (told : D → Option Blocks) (faults : D → ℕ) (a b c : Storage D) → KeepsSegments told faults a b → c.disk ≡ b.disk → ((h : ℕ → ℕ → ℕ) → worker_sum h c ≡ worker_sum h b) → KeepsSegments told faults a c
keeps_on told faults a b c f same sums = record {
  sums = λ h. sums h ∙ f.sums h;
  disk = subst (KeepsDisk told faults a.disk) (sym same) f.disk;
}

-- a call that only read one node's lot
pub keeps_read : {D : Type 0} (told : D → Option Blocks) (plan : Plan) (n : ℕ) (v u : WorkerView D) → n < suc (length plan.nodes) → KeepsWorker told v u (n ∷ []) [] → KeepsAll told plan v u
keeps_read told plan n v u low f = record {
  me = f.me;
  workers = f.workers;
  pipes = f.pipes;
  storage = record {
    size = f.storage.size;
    preserves = preserves_more (view_of told v.storage) (view_of told u.storage) (n ∷ []) [] (all_places (suc (length plan.nodes))) (all_places (suc (length plan.nodes))) true true
        (λ i none. none_of_all i (suc (length plan.nodes)) (n ∷ []) none at) (λ i none. tt) (λ is. is) f.storage.preserves;
  };
}
  where
    at : (k : ℕ) → k < length (n ∷ []) → slice_index_or (n ∷ []) k 0 < suc (length plan.nodes)
    at zero less = low
    at (suc k) less = absurd (omega (arith, less))

-- ---- causes

pub stream_cause : {T S D : Type 0} (before now : ℕ) (told : Option Blocks) (s : Storage D) (answer : Result S StreamFault) (f : StreamFault) → answer ≡ Err f → HasStageCause before now told s answer → HasExecCause {T = T} before now told (Err (of_stream f))
stream_cause before now told s answer stream_fault.Spill is cause = record {
  spill = λ worker e.
      let same : ◌≡◌ {A = ExecFault} (fault.Spill 0) (fault.Spill worker) = cc in
      let one : 0 ≡ worker = cc in
      (sym one, cause.cause.spill is);
  damaged = λ worker block e. cc;
  full = λ node step worker need have e. cc;
}
stream_cause before now told s answer (stream_fault.Damaged b) is cause = record {
  spill = λ worker e. cc;
  damaged = λ worker block e.
      let same : ◌≡◌ {A = ExecFault} (fault.Damaged 0 b) (fault.Damaged worker block) = cc in
      let one : 0 ≡ worker = cc in
      (sym one, cause.cause.damaged b is);
  full = λ node step worker need have e. cc;
}

pub no_exec_cause : {T : Type 0} (before now : ℕ) (told : Option Blocks) (x : T) → HasExecCause before now told (Ok x)
no_exec_cause before now told x = record { spill = λ worker e. cc; damaged = λ worker block e. cc; full = λ node step worker need have e. cc }

-- Why a later call ended early is why both did.
pub stage_then : {T D : Type 0} (told : D → Option Blocks) (plan : Plan) (w v : WorkerView D) (before mid now : ℕ) (s : Storage D) (answer : Result T StreamFault) → KeepsAll told plan w v → before ≤ mid → HasStageCause mid now (told v.storage.disk) s answer
    → HasStageCause before now (told w.storage.disk) s answer
stage_then told plan w v before mid now s answer keeps grew cause = record {
  cause = record {
    later = omega (arith, grew, cause.cause.later);
    spill = λ is. omega (arith, grew, cause.cause.spill is);
    damaged = λ block is. untold _ (told w.storage.disk) (told v.storage.disk) keeps.storage.preserves.told (cause.cause.damaged block is);
  };
  damaged = cause.damaged;
}
  where
    untold : (C : Blocks → Blocks → Type 0) (t u : Option Blocks) → BothTold t u C → u ≡ None → t ≡ None
    untold C None u both is = refl
    untold C (Some m) None both is = absurd both
    untold C (Some m) (Some n) both is = cc
