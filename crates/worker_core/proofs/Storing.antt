-- Rows that are stored in a node's lot, and the lot at rest again.
use Rattle.std.proofs.Common.{◌≡◌, ◌≢◌, inl, inr, ℕ, suc, ◌+◌, ◌-◌, ◌/◌, ◌^◌, ◌<◌, ◌≤◌, true, All, List, [], ◌∷◌, ◌++◌, length, map, Result, Ok, Err, OnOk, Option, Some, None, refl, sym, ap, ◌∙◌, subst, arith, append-nil, length-append}
use Rattle.std.specs.Prelude.{IsSome}
use Rattle.std.proofs.lemmas.Bool.{cases_eq}
use Rattle.std.proofs.lemmas.List.{map-append}
use Rattle.std.proofs.lemmas.List.Elements.{All-append, All-cons, All-nil}
use Rattle.segment_core.specs.Segments.{PurseView}
use Rattle.flow_outside.specs.Blocks.{Blocks, BothTold}
use Rattle.flow_outside.specs.Told.{IfTold}
use Rattle.flow_outside.specs.declared.failure.StreamFault.{StreamFault}
use Rattle.flow_types.specs.Limits.{record_limit}
use Rattle.flow_types.specs.Records.{IsRecord, IsTupleOf, form, tuple_of}
use Rattle.flow_types.specs.Types.{Fields, widest}
use Rattle.record_codec.proofs.RecordLemmas.{form_widest}
use Rattle.flow_model.specs.declared.plan.Node.{Node}
use Rattle.flow_model.specs.declared.plan.Plan.{Plan}
use Rattle.flow_model.specs.Rules.{IsPlan, node_at}
use Rattle.flow_model.specs.Segments.{reach, widest_record, work_minimum}
use Rattle.lot_store.specs.LotCalls.{IsSupplied}
use Rattle.lot_store.specs.Lots.{HoldsRows, LotView, empty, held}
use Rattle.lot_store.specs.Rows.{Gains, IsWhole, rows_in}
use Rattle.lot_store.specs.Storage.{IsReadyAt, lot_at}
use Rattle.lot_store.proofs.RowsRead.{rows_read}
use Rattle.lot_store.proofs.StorageLaws.{budget_kept}
use Rattle.row_pipe.specs.Pipes.{HoldsTuples}
use Rattle.worker_storage.specs.Storages.{HoldsSome, IsShort, KeepsStorage, Storage, view_of}
use Rattle.worker_core.specs.Workers.{HoldsNodes, HoldsTheSame, IsBeingFilled, IsFilling, IsRowOf, IsSound, IsWorkerOf, Stores, WorkerView, rows_under, tuples_in, worker_rows}
use Rattle.worker_core.proofs.NodeRows.{supplied}
use Rattle.worker_core.proofs.Passing.{each_node, one_node, rows_are, stays}
use Rattle.worker_core.proofs.PlanFacts.{found_low, found_number}
use Rattle.worker_core.proofs.Reading.{the_node}
use Rattle.worker_core.proofs.Widths.{segment_large, touched_low, widest_below}

-- A record behind a lot's, and none.
module _ (own : Fields) (to to_now : LotView) where
  row_added : (bytes : List ℕ) → IsRecord own bytes → (t u : Option Blocks) → IfTold t (HoldsSome own to) → BothTold t u (Gains to to_now (bytes ∷ []))
      → IfTold u (HoldsSome own to_now) × IfTold t (λ _. tuples_in own u to_now ≡ tuples_in own t to ++ tuple_of own bytes ∷ [])
  row_added bytes is None None written gains = (tt, tt)
  row_added bytes is None (Some n) written gains = absurd gains
  row_added bytes is (Some m) None written gains = absurd gains
  row_added bytes is (Some m) (Some n) (others, written) gains =
      let was : rows_in m to ≡ map form others = rows_read m to (map form others) written.records in
      let full : IsWhole m to = subst (HoldsRows m to) (sym was) written.records in
      let now : rows_in n to_now ≡ map form (others ++ tuple_of own bytes ∷ []) =
      gains.rows full ∙ ap (λ rs. rs ++ bytes ∷ []) was ∙ ap (λ (b : List ℕ). map form others ++ b ∷ []) is.formed ∙ sym (map-append form others (tuple_of own bytes ∷ [])) in
      let holds : HoldsTuples own n to_now (others ++ tuple_of own bytes ∷ []) = record {
        records = subst (HoldsRows n to_now) now (gains.whole full);
        fitting = All-append (IsTupleOf own) others (tuple_of own bytes ∷ []) written.fitting (All-cons (IsTupleOf own) (tuple_of own bytes) [] is.tuple (All-nil (IsTupleOf own)));
      } in (
        (others ++ tuple_of own bytes ∷ [], holds),
        rows_are own n to_now (others ++ tuple_of own bytes ∷ []) holds ∙ sym (ap (λ rs. rs ++ tuple_of own bytes ∷ []) (rows_are own m to others written)),
      )

  none_added : (t u : Option Blocks) → IfTold t (HoldsSome own to) → BothTold t u (Gains to to_now []) → IfTold u (HoldsSome own to_now) × (tuples_in own u to_now ≡ tuples_in own t to)
  none_added None None written gains = (tt, refl)
  none_added None (Some n) written gains = absurd gains
  none_added (Some m) None written gains = absurd gains
  none_added (Some m) (Some n) (others, written) gains =
      let was : rows_in m to ≡ map form others = rows_read m to (map form others) written.records in
      let full : IsWhole m to = subst (HoldsRows m to) (sym was) written.records in
      let now : rows_in n to_now ≡ map form others = gains.rows full ∙ append-nil (rows_in m to) ∙ was in
      let holds : HoldsTuples own n to_now others = record { records = subst (HoldsRows n to_now) now (gains.whole full); fitting = written.fitting } in
      ((others, holds), rows_are own n to_now others holds ∙ sym (rows_are own m to others written))

-- A claim that is made of each node.
claim_both : (t : Option Blocks) (P Q R : Type 0) → (P → Q → R) → IfTold t (λ _. P) → IfTold t (λ _. Q) → IfTold t (λ _. R)
claim_both None P Q R f p q = tt
claim_both (Some m) P Q R f p q = f p q

module _ {D : Type 0} (told : D → Option Blocks) (plan : Plan) (rules : IsPlan plan) (number : ℕ) (w : WorkerView D) (filled : IsBeingFilled told plan number w) (node : Node) (found : node_at plan.nodes number ≡ Some node) where
  is_number : node.number ≡ number
  is_number = found_number plan.nodes number node found

  pub fill_low : number < length w.storage.lots
  fill_low = omega (arith, found_low 1 plan.nodes number node rules.numbers found, filled.count)

  at_low : (x : Node) → node_at plan.nodes x.number ≡ Some x → x.number < length w.storage.lots
  at_low x there = omega (arith, found_low 1 plan.nodes x.number x rules.numbers there, filled.count)

  -- the record touches few pages
  pub is_short : (bytes : List ℕ) → IsRecord node.schema bytes → (d : LotView) → IsShort w.storage.size (lot_at w.storage.lots number d).feed.reach (length bytes)
  is_short bytes is d =
      let large : 16 < plan.segment = omega (arith, segment_large plan.segment rules.segment) in
      let narrow : length bytes ≤ widest_record plan = omega (arith, form_widest node.schema (tuple_of node.schema bytes) is.tuple.fitting, ap length is.formed, widest_below plan number node found) in
      subst (λ size. IsShort size (lot_at w.storage.lots number d).feed.reach (length bytes)) (sym filled.size)
      (subst (λ most. IsShort plan.segment most (length bytes)) (sym (filled.reach number d fill_low)) (touched_low plan.segment (length bytes) (widest_record plan) large narrow))

  module _ (s : Storage D) (keeps : KeepsStorage told w.storage s (number ∷ []) (number ∷ []) true) where
    abbrev pub after : WorkerView D
    after = record { me = w.me; workers = w.workers; storage = s; pipes = w.pipes }

    pub filled_after : IsBeingFilled told plan number after
    filled_after = record {
      count = keeps.preserves.count ∙ filled.count;
      size = keeps.size ∙ filled.size;
      reach = λ i d low. keeps.preserves.reach i d ∙ filled.reach i d (omega (arith, low, keeps.preserves.count));
      rests = λ i d low far. subst (λ (lot : LotView). length (held lot) ≤ lot.stored.room) (sym (keeps.preserves.same i d (far, tt))) (filled.rests i d (omega (arith, low, keeps.preserves.count)) far);
      bare = λ d. keeps.preserves.rooms plan.result d ∙ filled.bare d;
      budget = budget_kept (view_of told w.storage) (view_of told s) (number ∷ []) (number ∷ []) true (work_minimum plan) keeps.preserves filled.budget;
      pipes = filled.pipes;
    }

    pub rested_after : ((d : LotView) → length (held (lot_at s.lots number d)) ≤ (lot_at s.lots number d).stored.room) → IsWorkerOf told plan after
    rested_after rests = record {
      count = filled_after.count;
      size = filled_after.size;
      reach = filled_after.reach;
      rests = λ i d low. elim (cases_eq i number) [
        | inl at ↦ subst (λ k. length (held (lot_at s.lots k d)) ≤ (lot_at s.lots k d).stored.room) (sym at) (rests d)
        | inr far ↦ filled_after.rests i d low far
      ];
      bare = filled_after.bare;
      budget = filled_after.budget;
      pipes = filled_after.pipes;
    }

    module _ (ready : IsReadyAt w.storage.size (view_of told w.storage)) (holds : IfTold (told w.storage.disk) (HoldsNodes plan.nodes w.storage.lots)) where
      other : (x : Node) (d : LotView) → node_at plan.nodes x.number ≡ Some x → x.number ≢ number → IfTold (told s.disk) (HoldsSome x.schema (lot_at s.lots x.number d))
          × (tuples_in x.schema (told s.disk) (lot_at s.lots x.number d) ≡ tuples_in x.schema (told w.storage.disk) (lot_at w.storage.lots x.number d))
      other x d there far =
          stays w.storage.size w.storage.purse s.purse w.storage.lots s.lots (number ∷ []) (number ∷ []) x.number d (at_low x there) (far, tt) x.schema (told w.storage.disk) (told s.disk) keeps.preserves ready (one_node plan.nodes w.storage.lots (told w.storage.disk) x d there holds)

      same_node : (x : Node) → node_at plan.nodes x.number ≡ Some x → x.number ≡ number → node ≡ x
      same_node x there at = let both : Some node ≡ Some x = sym found ∙ ap (node_at plan.nodes) (sym at) ∙ there in cc

      here_before : (d : LotView) → IfTold (told w.storage.disk) (HoldsSome node.schema (lot_at w.storage.lots number d))
      here_before d = subst (λ k. IfTold (told w.storage.disk) (HoldsSome node.schema (lot_at w.storage.lots k d))) is_number (one_node plan.nodes w.storage.lots (told w.storage.disk) node d (ap (node_at plan.nodes) is_number ∙ found) holds)

      -- all nodes' lots, where that of this node holds rows of its schema
      all_hold : ((d : LotView) → IfTold (told s.disk) (HoldsSome node.schema (lot_at s.lots number d))) → IfTold (told s.disk) (HoldsNodes plan.nodes s.lots)
      all_hold here = each_node plan.nodes s.lots (told s.disk) (λ x d there. elim (cases_eq x.number number) [
        | inl at ↦ subst (λ k. IfTold (told s.disk) (HoldsSome x.schema (lot_at s.lots k d))) (sym at) (subst (λ (y : Node). IfTold (told s.disk) (HoldsSome y.schema (lot_at s.lots number d))) (same_node x there at) (here d))
        | inr far ↦ (other x d there far).0
      ])

      -- what is held of another number, and of this one
      others_same : (n : ℕ) → n ≢ number → worker_rows told plan.nodes after n ≡ worker_rows told plan.nodes w n
      others_same n far = go (node_at plan.nodes n) refl
        where
          go : (o : Option Node) → node_at plan.nodes n ≡ o → rows_under told s (node_at plan.nodes n) ≡ rows_under told w.storage (node_at plan.nodes n)
          go None e = ap (rows_under told s) e ∙ sym (ap (rows_under told w.storage) e)
          go (Some x) e =
              let is : x.number ≡ n = found_number plan.nodes n x e in
              ap (rows_under told s) e ∙ (other x (empty 0 0) (ap (node_at plan.nodes) is ∙ e) (λ same. far (sym is ∙ same))).1 ∙ sym (ap (rows_under told w.storage) e)

      here_now : worker_rows told plan.nodes after number ≡ tuples_in node.schema (told s.disk) (lot_at s.lots number (empty 0 0))
      here_now = ap (rows_under told s) found ∙ ap (λ k. tuples_in node.schema (told s.disk) (lot_at s.lots k (empty 0 0))) is_number

      here_was : worker_rows told plan.nodes w number ≡ tuples_in node.schema (told w.storage.disk) (lot_at w.storage.lots number (empty 0 0))
      here_was = ap (rows_under told w.storage) found ∙ ap (λ k. tuples_in node.schema (told w.storage.disk) (lot_at w.storage.lots k (empty 0 0))) is_number

      -- a row was stored
      module _ (bytes : List ℕ) (is : IsRecord node.schema bytes) where
        pub stored_filling : (r : Result Unit StreamFault) → ((d : LotView) → OnOk r (BothTold (told w.storage.disk) (told s.disk) (Gains (lot_at w.storage.lots number d) (lot_at s.lots number d) (bytes ∷ [])))) → ((d : LotView) → OnOk r (IsSupplied s.purse (lot_at s.lots number d)))
            → OnOk r (IsFilling told plan number after)
        stored_filling (Err wrong) gains supply = tt
        stored_filling (Ok done) gains supply = record {
          filled = filled_after;
          supply = supply;
          holds = all_hold (λ d. (row_added node.schema (lot_at w.storage.lots number d) (lot_at s.lots number d) bytes is (told w.storage.disk) (told s.disk) (here_before d) (gains d)).0);
        }

        pub stored_rows : (r : Result Unit StreamFault) → ((d : LotView) → OnOk r (BothTold (told w.storage.disk) (told s.disk) (Gains (lot_at w.storage.lots number d) (lot_at s.lots number d) (bytes ∷ []))))
            → OnOk r (IfTold (told w.storage.disk) (λ _. Stores told plan.nodes number bytes w after))
        stored_rows (Err wrong) gains = tt
        stored_rows (Ok done) gains =
            at (told w.storage.disk)
            (row_added node.schema (lot_at w.storage.lots number (empty 0 0)) (lot_at s.lots number (empty 0 0)) bytes is (told w.storage.disk) (told s.disk) (here_before (empty 0 0)) (gains (empty 0 0))).1
          where
            of_node : (x : Node) → node_at plan.nodes number ≡ Some x → node ≡ x
            of_node x e = let both : Some node ≡ Some x = sym found ∙ e in cc

            at : (t : Option Blocks) → IfTold t (λ _. tuples_in node.schema (told s.disk) (lot_at s.lots number (empty 0 0)) ≡ tuples_in node.schema (told w.storage.disk) (lot_at w.storage.lots number (empty 0 0)) ++ tuple_of node.schema bytes ∷ [])
                → IfTold t (λ _. Stores told plan.nodes number bytes w after)
            at None rows = tt
            at (Some m) rows = record {
              stored = λ x e. subst (λ (y : Node). worker_rows told plan.nodes after number ≡ worker_rows told plan.nodes w number ++ tuple_of y.schema bytes ∷ []) (of_node x e)
                  (here_now ∙ rows ∙ ap (λ rs. rs ++ tuple_of node.schema bytes ∷ []) (sym here_was));
              others = others_same;
            }

      -- the lot came to rest
      pub rested_sound : (r : Result Unit StreamFault) → ((d : LotView) → length (held (lot_at s.lots number d)) ≤ (lot_at s.lots number d).stored.room) → ((d : LotView) → OnOk r (BothTold (told w.storage.disk) (told s.disk) (Gains (lot_at w.storage.lots number d) (lot_at s.lots number d) [])))
          → OnOk r (IsSound told plan after)
      rested_sound (Err wrong) rests gains = tt
      rested_sound (Ok done) rests gains = record {
        worker = rested_after rests;
        holds = all_hold (λ d. (none_added node.schema (lot_at w.storage.lots number d) (lot_at s.lots number d) (told w.storage.disk) (told s.disk) (here_before d) (gains d)).0);
      }

      pub rested_same : (r : Result Unit StreamFault) → ((d : LotView) → OnOk r (BothTold (told w.storage.disk) (told s.disk) (Gains (lot_at w.storage.lots number d) (lot_at s.lots number d) []))) → OnOk r (HoldsTheSame told plan.nodes w after)
      rested_same (Err wrong) gains = tt
      rested_same (Ok done) gains = λ n. elim (cases_eq n number) [
        | inl at ↦ subst (λ k. worker_rows told plan.nodes after k ≡ worker_rows told plan.nodes w k) (sym at)
            (here_now ∙ (none_added node.schema (lot_at w.storage.lots number (empty 0 0)) (lot_at s.lots number (empty 0 0)) (told w.storage.disk) (told s.disk) (here_before (empty 0 0)) (gains (empty 0 0))).1 ∙ sym here_was)
        | inr far ↦ others_same n far
      ]

-- A sound worker's lot may be filled.
pub may_fill : {D : Type 0} (told : D → Option Blocks) (plan : Plan) (number : ℕ) (w : WorkerView D) → IsSound told plan w → IsFilling told plan number w
may_fill told plan number w sound = record {
  filled = record {
    count = sound.worker.count;
    size = sound.worker.size;
    reach = sound.worker.reach;
    rests = λ i d low far. sound.worker.rests i d low;
    bare = sound.worker.bare;
    budget = sound.worker.budget;
    pipes = sound.worker.pipes;
  };
  supply = λ d. omega (arith, supplied told plan w sound.worker);
  holds = sound.holds;
}
