-- A node's lot was read: a worker is as sound as it was, and holds the same rows.
use Rattle.std.proofs.Common.{◌≡◌, inl, inr, ℕ, ◌-◌, ◌^◌, ◌<◌, ◌≤◌, true, [], ◌∷◌, length, map, min, Result, Ok, Err, Option, Some, None, refl, sym, ap, ◌∙◌, subst, arith}
use Rattle.std.specs.Prelude.{IfOk, IsSome}
use Rattle.std.proofs.lemmas.Bool.{cases_eq}
use Rattle.std.proofs.lemmas.List.{length-map}
use Rattle.flow_outside.specs.Blocks.{Blocks}
use Rattle.flow_outside.specs.Told.{IfTold}
use Rattle.flow_types.specs.Records.{form, tuple_of}
use Rattle.flow_model.specs.declared.plan.Node.{Node}
use Rattle.flow_model.specs.declared.plan.Plan.{Plan}
use Rattle.flow_model.specs.Rules.{IsPlan, node_at}
use Rattle.flow_model.specs.Segments.{work_minimum}
use Rattle.lot_store.specs.Lots.{HoldsRows, LotView, empty, held}
use Rattle.lot_store.specs.Rows.{IsWhole, rows_in}
use Rattle.lot_store.specs.Storage.{IsReadyAt, lot_at}
use Rattle.lot_store.proofs.RowsRead.{rows_read}
use Rattle.lot_store.proofs.StorageLaws.{budget_kept}
use Rattle.worker_storage.specs.Storages.{HoldsSome, KeepsStorage, MayRead, Storage, row_count, view_of}
use Rattle.worker_core.specs.Workers.{IsSound, WorkerView, rows_under, tuples_in, worker_rows}
use Rattle.worker_core.proofs.NodeRows.{supplied}
use Rattle.worker_core.proofs.Passing.{each_node, one_node, stays}
use Rattle.worker_core.proofs.PlanFacts.{found_low, found_number}

-- a node that is there
pub the_node : (o : Option Node) → IsSome o → (node : Node) × (o ≡ Some node)
the_node None some = cc
the_node (Some node) some = (node, refl)

module _ {D : Type 0} (told : D → Option Blocks) (plan : Plan) (rules : IsPlan plan) (number : ℕ) (w : WorkerView D) (sound : IsSound told plan w) (node : Node) (found : node_at plan.nodes number ≡ Some node) where
  is_number : node.number ≡ number
  is_number = found_number plan.nodes number node found

  pub read_low : number < length w.storage.lots
  read_low = omega (arith, found_low 1 plan.nodes number node rules.numbers found, sound.worker.count)

  pub may_be_read : (d : LotView) → MayRead w.storage.purse (lot_at w.storage.lots number d)
  may_be_read d = record {
    supply = omega (arith, supplied told plan w sound.worker, sound.worker.reach number d read_low);
    rests = sound.worker.rests number d read_low;
  }

  pub is_whole : (d : LotView) → IfTold (told w.storage.disk) (λ blocks. IsWhole blocks (lot_at w.storage.lots number d))
  is_whole d = known (told w.storage.disk) (subst (λ k. IfTold (told w.storage.disk) (HoldsSome node.schema (lot_at w.storage.lots k d))) is_number (one_node plan.nodes w.storage.lots (told w.storage.disk) node d (ap (node_at plan.nodes) is_number ∙ found) sound.holds))
    where
      known : (t : Option Blocks) → IfTold t (HoldsSome node.schema (lot_at w.storage.lots number d)) → IfTold t (λ blocks. IsWhole blocks (lot_at w.storage.lots number d))
      known None h = tt
      known (Some m) (rows, h) = subst (HoldsRows m (lot_at w.storage.lots number d)) (sym (rows_read m (lot_at w.storage.lots number d) (map form rows) h.records)) h.records

  module _ (s : Storage D) (ready : IsReadyAt w.storage.size (view_of told w.storage)) (keeps : KeepsStorage told w.storage s (number ∷ []) [] true) where
    at_low : (x : Node) → node_at plan.nodes x.number ≡ Some x → x.number < length w.storage.lots
    at_low x there = omega (arith, found_low 1 plan.nodes x.number x rules.numbers there, sound.worker.count)

    same : (x : Node) (d : LotView) → node_at plan.nodes x.number ≡ Some x → IfTold (told s.disk) (HoldsSome x.schema (lot_at s.lots x.number d))
        × (tuples_in x.schema (told s.disk) (lot_at s.lots x.number d) ≡ tuples_in x.schema (told w.storage.disk) (lot_at w.storage.lots x.number d))
    same x d there =
        stays w.storage.size w.storage.purse s.purse w.storage.lots s.lots (number ∷ []) [] x.number d (at_low x there) tt x.schema (told w.storage.disk) (told s.disk) keeps.preserves ready (one_node plan.nodes w.storage.lots (told w.storage.disk) x d there sound.holds)

    pub read_sound : ((d : LotView) → length (held (lot_at s.lots number d)) ≤ (lot_at s.lots number d).stored.room) → IsSound told plan (record { me = w.me; workers = w.workers; storage = s; pipes = w.pipes })
    read_sound rests = record {
      worker = record {
        count = keeps.preserves.count ∙ sound.worker.count;
        size = keeps.size ∙ sound.worker.size;
        reach = λ i d low. keeps.preserves.reach i d ∙ sound.worker.reach i d (omega (arith, low, keeps.preserves.count));
        rests = λ i d low. elim (cases_eq i number) [
          | inl at ↦ subst (λ k. length (held (lot_at s.lots k d)) ≤ (lot_at s.lots k d).stored.room) (sym at) (rests d)
          | inr far ↦ subst (λ (lot : LotView). length (held lot) ≤ lot.stored.room) (sym (keeps.preserves.same i d (far, tt))) (sound.worker.rests i d (omega (arith, low, keeps.preserves.count)))
        ];
        bare = λ d. keeps.preserves.rooms plan.result d ∙ sound.worker.bare d;
        budget = budget_kept (view_of told w.storage) (view_of told s) (number ∷ []) [] true (work_minimum plan) keeps.preserves sound.worker.budget;
        pipes = sound.worker.pipes;
      };
      holds = each_node plan.nodes s.lots (told s.disk) (λ x d there. (same x d there).0);
    }

    pub read_rows : (n : ℕ) → rows_under told s (node_at plan.nodes n) ≡ rows_under told w.storage (node_at plan.nodes n)
    read_rows n = go (node_at plan.nodes n) refl
      where
        go : (o : Option Node) → node_at plan.nodes n ≡ o → rows_under told s (node_at plan.nodes n) ≡ rows_under told w.storage (node_at plan.nodes n)
        go None e = ap (rows_under told s) e ∙ sym (ap (rows_under told w.storage) e)
        go (Some x) e = ap (rows_under told s) e ∙ (same x (empty 0 0) (ap (node_at plan.nodes) (found_number plan.nodes n x e) ∙ e)).1 ∙ sym (ap (rows_under told w.storage) e)

  pub counted : {E : Type 0} (answer : Result ℕ E) → ((d : LotView) → IfOk answer (λ count. IfTold (told w.storage.disk) (λ blocks. count ≡ row_count (rows_in blocks (lot_at w.storage.lots number d)))))
      → IfOk answer (λ count. IfTold (told w.storage.disk) (λ _. count ≡ min (length (worker_rows told plan.nodes w number)) (2 ^ 64 - 1)))
  counted (Err e) h = tt
  counted (Ok count) h = known (told w.storage.disk) refl (h (empty 0 0))
    where
      known : (t : Option Blocks) → told w.storage.disk ≡ t → IfTold t (λ blocks. count ≡ row_count (rows_in blocks (lot_at w.storage.lots number (empty 0 0)))) → IfTold t (λ _. count ≡ min (length (worker_rows told plan.nodes w number)) (2 ^ 64 - 1))
      known None is k = tt
      known (Some m) is k =
          let rows : worker_rows told plan.nodes w number ≡ tuples_in node.schema (Some m) (lot_at w.storage.lots number (empty 0 0)) =
          ap (rows_under told w.storage) found ∙ ap (λ n. tuples_in node.schema (told w.storage.disk) (lot_at w.storage.lots n (empty 0 0))) is_number ∙ ap (λ t. tuples_in node.schema t (lot_at w.storage.lots number (empty 0 0))) is in
          let len : length (worker_rows told plan.nodes w number) ≡ length (rows_in m (lot_at w.storage.lots number (empty 0 0))) =
          ap length rows ∙ length-map (rows_in m (lot_at w.storage.lots number (empty 0 0))) (tuple_of node.schema) in
          k ∙ sym (ap (λ n. min n (2 ^ 64 - 1)) len)
