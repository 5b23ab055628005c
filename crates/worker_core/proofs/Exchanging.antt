-- A lot in the place of a node's.
use Rattle.std.proofs.Common.{◌≡◌, ◌≢◌, inl, inr, ℕ, ◌<◌, ◌≤◌, List, length, set, Option, Some, None, refl, sym, ap, ◌∙◌, subst, arith}
use Rattle.std.proofs.lemmas.Bool.{cases_eq}
use Rattle.std.proofs.lemmas.List.{get_or-set_other, get_or-set_same, length-set}
use Rattle.std.proofs.lemmas.List.Sums.{sum_by-set}
use Rattle.flow_outside.specs.Blocks.{Blocks}
use Rattle.flow_outside.specs.Told.{IfTold}
use Rattle.flow_model.specs.declared.plan.Node.{Node}
use Rattle.flow_model.specs.declared.plan.Plan.{Plan}
use Rattle.flow_model.specs.Rules.{IsPlan, node_at}
use Rattle.flow_model.specs.Segments.{reach}
use Rattle.lot_store.specs.Lots.{LotView, empty, held}
use Rattle.lot_store.specs.Storage.{lot_at}
use Rattle.worker_storage.specs.Storages.{HoldsSome}
use Rattle.worker_core.specs.Workers.{IsSound, MayTakeItsPlace, TakesItsPlace, WorkerView, rows_under, tuples_in}
use Rattle.worker_core.proofs.Passing.{each_node, one_node}
use Rattle.worker_core.proofs.PlanFacts.{found_low, found_number}

module _ {D : Type 0} (told : D → Option Blocks) (plan : Plan) (rules : IsPlan plan) (number : ℕ) (w : WorkerView D) (sound : IsSound told plan w) (lot : LotView) (may : MayTakeItsPlace told plan number w lot) where
  abbrev pub placed : WorkerView D
  placed = record { me = w.me; workers = w.workers; storage = record { size = w.storage.size; purse = w.storage.purse; disk = w.storage.disk; lots = set w.storage.lots number lot }; pipes = w.pipes }

  is_number : may.node.number ≡ number
  is_number = found_number plan.nodes number may.node may.found

  pub place_low : number < length w.storage.lots
  place_low = omega (arith, found_low 1 plan.nodes number may.node rules.numbers may.found, sound.worker.count)

  -- what stands at the place, and at each other
  here : (d : LotView) → lot_at placed.storage.lots number d ≡ lot
  here d = get_or-set_same w.storage.lots number lot d place_low

  there : (i : ℕ) (d : LotView) → i ≢ number → lot_at placed.storage.lots i d ≡ lot_at w.storage.lots i d
  there i d far = get_or-set_other w.storage.lots number i lot d far

  at_each : (P : ℕ → LotView → Type 0) → ((i : ℕ) (d : LotView) → i < length w.storage.lots → P i (lot_at w.storage.lots i d)) → P number lot → (i : ℕ) (d : LotView) → i < length placed.storage.lots → P i (lot_at placed.storage.lots i d)
  at_each P old new i d low = elim (cases_eq i number) [
    | inl is ↦ subst (λ k. P k (lot_at placed.storage.lots k d)) (sym is) (subst (P number) (sym (here d)) new)
    | inr far ↦ subst (P i) (sym (there i d far)) (old i d (omega (arith, low, length-set w.storage.lots number lot)))
  ]

  holds_node : (x : Node) (d : LotView) → node_at plan.nodes x.number ≡ Some x → IfTold (told w.storage.disk) (HoldsSome x.schema (lot_at placed.storage.lots x.number d))
  holds_node x d found = elim (cases_eq x.number number) [
    | inl is ↦
        let same : may.node ≡ x = let both : Some may.node ≡ Some x = sym may.found ∙ ap (node_at plan.nodes) (sym is) ∙ found in cc in
        subst (λ (y : Node). IfTold (told w.storage.disk) (HoldsSome y.schema (lot_at placed.storage.lots y.number d))) same
        (subst (λ k. IfTold (told w.storage.disk) (HoldsSome may.node.schema (lot_at placed.storage.lots k d))) (sym is_number)
        (subst (λ l. IfTold (told w.storage.disk) (HoldsSome may.node.schema l)) (sym (here d)) may.holds))
    | inr far ↦ subst (λ l. IfTold (told w.storage.disk) (HoldsSome x.schema l)) (sym (there x.number d far)) (one_node plan.nodes w.storage.lots (told w.storage.disk) x d found sound.holds)
  ]

  bare_still : (d : LotView) → (lot_at placed.storage.lots plan.result d).stored.room ≡ 0
  bare_still d = elim (cases_eq plan.result number) [
    | inl is ↦ subst (λ k. (lot_at placed.storage.lots k d).stored.room ≡ 0) (sym is) (ap (λ (l : LotView). l.stored.room) (here d) ∙ may.room)
    | inr far ↦ ap (λ (l : LotView). l.stored.room) (there plan.result d far) ∙ sound.worker.bare d
  ]

  pub placed_sound : IsSound told plan placed
  placed_sound = record {
    worker = record {
      count = length-set w.storage.lots number lot ∙ sound.worker.count;
      size = sound.worker.size;
      reach = at_each (λ i l. l.feed.reach ≡ reach plan) sound.worker.reach may.reach;
      rests = at_each (λ i l. length (held l) ≤ l.stored.room) sound.worker.rests (omega (arith, ap (λ (s : List _). length s) may.none));
      bare = bare_still;
      budget = omega (arith, sound.worker.budget, sum_by-set (λ (l : LotView). l.stored.room) w.storage.lots number lot lot place_low, sum_by-set (λ (l : LotView). length (held l)) w.storage.lots number lot lot place_low, may.room, sound.worker.rests number lot place_low);
      pipes = sound.worker.pipes;
    };
    holds = each_node plan.nodes placed.storage.lots (told w.storage.disk) holds_node;
  }

  pub takes_its_place : TakesItsPlace told plan.nodes number lot w placed
  takes_its_place = record {
    rows = λ node found.
        ap (rows_under told placed.storage) found
        ∙ ap (λ k. tuples_in node.schema (told w.storage.disk) (lot_at placed.storage.lots k (empty 0 0))) (found_number plan.nodes number node found)
        ∙ ap (tuples_in node.schema (told w.storage.disk)) (here (empty 0 0));
    others = λ n far. go n (node_at plan.nodes n) refl far;
    rest = refl;
  }
    where
      go : (n : ℕ) (o : Option Node) → node_at plan.nodes n ≡ o → n ≢ number → rows_under told placed.storage (node_at plan.nodes n) ≡ rows_under told w.storage (node_at plan.nodes n)
      go n None e far = ap (rows_under told placed.storage) e ∙ sym (ap (rows_under told w.storage) e)
      go n (Some x) e far =
          let is : x.number ≡ n = found_number plan.nodes n x e in
          ap (rows_under told placed.storage) e ∙ ap (tuples_in x.schema (told w.storage.disk)) (there x.number (empty 0 0) (λ same. far (sym is ∙ same))) ∙ sym (ap (rows_under told w.storage) e)
