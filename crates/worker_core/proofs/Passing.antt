-- A lot's rows went to the lot of another node: what stands under each number.
use Rattle.std.proofs.Common.{◌≡◌, ◌≢◌, inl, inr, ℕ, ◌<◌, true, All, List, [], ◌∷◌, ◌++◌, length, map, Option, Some, None, refl, sym, ap, ◌∙◌, subst}
use Rattle.std.proofs.lemmas.Bool.{cases_eq}
use Rattle.std.proofs.lemmas.List.{map-append}
use Rattle.std.proofs.lemmas.List.Elements.{All-append}
use Rattle.segment_core.specs.Segments.{PurseView}
use Rattle.flow_outside.specs.Blocks.{Blocks, BothTold}
use Rattle.flow_outside.specs.Told.{IfTold}
use Rattle.flow_types.specs.Types.{Fields}
use Rattle.flow_types.specs.Records.{IsTupleOf, form, tuple_of}
use Rattle.flow_model.specs.declared.plan.Node.{Node}
use Rattle.flow_model.specs.Env.{Tuples}
use Rattle.flow_model.specs.Rules.{node_at}
use Rattle.lot_store.specs.Lots.{HoldsRows, LotView, empty}
use Rattle.lot_store.specs.Rows.{Gains, IsWhole, rows_in, rows_of}
use Rattle.lot_store.specs.Storage.{IsNoneOf, IsReadyAt, Preserves, lot_at}
use Rattle.lot_store.proofs.RowsRead.{rows_read}
use Rattle.lot_store.proofs.StorageLaws.{ready_of_at, rows_kept_on}
use Rattle.row_pipe.specs.Pipes.{HoldsTuples}
use Rattle.row_pipe.specs.Works.{piped, taken_of}
use Rattle.row_pipe.specs.declared.work.Work.{Work}
use Rattle.row_pipe.specs.declared.work.Work.TheVariants as work
use Rattle.worker_storage.specs.Storages.{HoldsSome, KeepsStorage, Storage, given, view_of}
use Rattle.worker_storage.proofs.Lifting.{given_is, read_back, whole}
use Rattle.worker_core.specs.Workers.{HoldsNodes, PassesOn, rows_under, tuples_in}
use Rattle.worker_core.proofs.PlanFacts.{Link, found_number}

-- Of no rows none are made.
piped_none : (w : Work) → piped w [] ≡ []
piped_none work.Pass = refl
piped_none (work.Map columns) = refl
piped_none (work.Filter test) = refl
piped_none (work.FlatMap branches) = refl

-- The rows of a schema that a lot holds are those that its records are read as.
pub rows_are : (fields : Fields) (m : Blocks) (lot : LotView) (rows : Tuples) → HoldsTuples fields m lot rows → tuples_in fields (Some m) lot ≡ rows
rows_are fields m lot rows holds = ap (map (tuple_of fields)) (rows_read m lot (map form rows) holds.records) ∙ read_back fields rows holds.fitting

-- A lot that wasn't written holds what it held.
module _ (size : ℕ) (p q : PurseView) (xs ys : List LotView) (ts ws : List ℕ) (at : ℕ) (d : LotView) (low : at < length xs) (none : IsNoneOf at ws) where
  pub stays : (fields : Fields) (t u : Option Blocks) → Preserves (whole t p xs) (whole u q ys) ts ws true → IsReadyAt size (whole t p xs) → IfTold t (HoldsSome fields (lot_at xs at d))
      → IfTold u (HoldsSome fields (lot_at ys at d)) × (tuples_in fields u (lot_at ys at d) ≡ tuples_in fields t (lot_at xs at d))
  stays fields None None keeps ready holds = (tt, refl)
  stays fields None (Some n) keeps ready holds = absurd keeps.told
  stays fields (Some m) None keeps ready holds = absurd keeps.told
  stays fields (Some m) (Some n) keeps ready (rows, holds) =
      let after : HoldsRows n (lot_at ys at d) (map form rows) =
      rows_kept_on (whole (Some m) p xs) (whole (Some n) q ys) ts ws true m n at d (map form rows) (record { ready = ready_of_at size (whole (Some m) p xs) ready; preserves = keeps }) refl refl low none holds.records in
      let still : HoldsTuples fields n (lot_at ys at d) rows = record { records = after; fitting = holds.fitting } in
      ((rows, still), rows_are fields n (lot_at ys at d) rows still ∙ sym (rows_are fields m (lot_at xs at d) rows holds))

-- What was added to a lot are the rows that are made of another's.
module _ (input taken own : Fields) (w : Work) (from to to_now : LotView)
    (takes : (rows : Tuples) → All (IsTupleOf input) rows → All (IsTupleOf taken) rows)
    (gives : (rows : Tuples) → All (IsTupleOf input) rows → All (IsTupleOf own) (piped w rows)) where
  added : (t u : Option Blocks) → IfTold t (HoldsSome input from) → IfTold t (HoldsSome own to) → BothTold t u (Gains to to_now (given taken w (rows_of t from)))
      → IfTold u (HoldsSome own to_now) × (tuples_in own u to_now ≡ tuples_in own t to ++ piped w (tuples_in input t from))
  added None None read written gains = (tt, sym (piped_none w))
  added None (Some n) read written gains = absurd gains
  added (Some m) None read written gains = absurd gains
  added (Some m) (Some n) (rows, read) (others, written) gains =
      let known : HoldsTuples taken m from rows = record { records = read.records; fitting = takes rows read.fitting } in
      let new : given taken w (rows_in m from) ≡ map form (piped w rows) = given_is taken w m from rows known in
      let was : rows_in m to ≡ map form others = rows_read m to (map form others) written.records in
      let full : IsWhole m to = subst (HoldsRows m to) (sym was) written.records in
      let now : rows_in n to_now ≡ map form (others ++ piped w rows) =
      gains.rows full ∙ ap (λ rs. rs ++ given taken w (rows_in m from)) was ∙ ap (λ rs. map form others ++ rs) new ∙ sym (map-append form others (piped w rows)) in
      let holds : HoldsTuples own n to_now (others ++ piped w rows) = record {
        records = subst (HoldsRows n to_now) now (gains.whole full);
        fitting = All-append (IsTupleOf own) others (piped w rows) written.fitting (gives rows read.fitting);
      } in (
        (others ++ piped w rows, holds),
        rows_are own n to_now (others ++ piped w rows) holds ∙ sym (ap (λ rs. rs ++ piped w (tuples_in input (Some m) from)) (rows_are own m to others written) ∙ ap (λ rs. others ++ piped w rs) (rows_are input m from rows read)),
      )

-- where it is so of each node
pub each_node : (nodes : List Node) (lots : List LotView) (u : Option Blocks) → ((x : Node) (d : LotView) → node_at nodes x.number ≡ Some x → IfTold u (HoldsSome x.schema (lot_at lots x.number d))) → IfTold u (HoldsNodes nodes lots)
each_node nodes lots None h = tt
each_node nodes lots (Some n) h = h

pub one_node : (nodes : List Node) (lots : List LotView) (t : Option Blocks) (x : Node) (d : LotView) → node_at nodes x.number ≡ Some x → IfTold t (HoldsNodes nodes lots) → IfTold t (HoldsSome x.schema (lot_at lots x.number d))
one_node nodes lots None x d found h = tt
one_node nodes lots (Some m) x d found h = h x d found

-- All of it, of a worker's storage.
module _ {D : Type 0} (told : D → Option Blocks) (nodes : List Node) (node : Node) (w : Work) (from : ℕ) (link : Link nodes node w from) (found : node_at nodes node.number ≡ Some node) (a b : Storage D)
    (ready : IsReadyAt a.size (view_of told a)) (low : (x : Node) → node_at nodes x.number ≡ Some x → x.number < length a.lots) (keeps : KeepsStorage told a b (from ∷ node.number ∷ []) (node.number ∷ []) true)
    (holds : IfTold (told a.disk) (HoldsNodes nodes a.lots))
    (gains : (d : LotView) → BothTold (told a.disk) (told b.disk) (Gains (lot_at a.lots node.number d) (lot_at b.lots node.number d) (given (taken_of node) w (rows_of (told a.disk) (lot_at a.lots from d))))) where
  input_found : node_at nodes link.input.number ≡ Some link.input
  input_found = ap (node_at nodes) link.number ∙ link.found

  here : (d : LotView) → IfTold (told b.disk) (HoldsSome node.schema (lot_at b.lots node.number d))
      × (tuples_in node.schema (told b.disk) (lot_at b.lots node.number d) ≡ tuples_in node.schema (told a.disk) (lot_at a.lots node.number d) ++ piped w (tuples_in link.input.schema (told a.disk) (lot_at a.lots from d)))
  here d =
      added link.input.schema (taken_of node) node.schema w (lot_at a.lots from d) (lot_at a.lots node.number d) (lot_at b.lots node.number d) link.taken link.given (told a.disk) (told b.disk)
      (subst (λ n. IfTold (told a.disk) (HoldsSome link.input.schema (lot_at a.lots n d))) link.number (one_node nodes a.lots (told a.disk) link.input d input_found holds))
      (one_node nodes a.lots (told a.disk) node d found holds) (gains d)

  other : (x : Node) (d : LotView) → node_at nodes x.number ≡ Some x → x.number ≢ node.number → IfTold (told b.disk) (HoldsSome x.schema (lot_at b.lots x.number d))
      × (tuples_in x.schema (told b.disk) (lot_at b.lots x.number d) ≡ tuples_in x.schema (told a.disk) (lot_at a.lots x.number d))
  other x d there far =
      stays a.size a.purse b.purse a.lots b.lots (from ∷ node.number ∷ []) (node.number ∷ []) x.number d (low x there) (far, tt) x.schema (told a.disk) (told b.disk) keeps.preserves ready (one_node nodes a.lots (told a.disk) x d there holds)

  pub holds_after : IfTold (told b.disk) (HoldsNodes nodes b.lots)
  holds_after = each_node nodes b.lots (told b.disk) (λ x d there. elim (cases_eq x.number node.number) [
    | inl is ↦
        let same : x ≡ node = let both : Some x ≡ Some node = sym there ∙ ap (node_at nodes) is ∙ found in cc in
        subst (λ (y : Node). IfTold (told b.disk) (HoldsSome y.schema (lot_at b.lots y.number d))) (sym same) (here d).0
    | inr far ↦ (other x d there far).0
  ])

  pub passes_on : PassesOn told nodes from node.number w a b
  passes_on = record {
    made = ap (rows_under told b) found ∙ (here (empty 0 0)).1 ∙ sym (ap (λ o. rows_under told a o ++ piped w (rows_under told a (node_at nodes from))) found ∙ ap (λ rs. rows_under told a (Some node) ++ piped w rs) input_rows);
    others = λ n far. go n (node_at nodes n) refl far;
  }
    where
      input_rows : rows_under told a (node_at nodes from) ≡ tuples_in link.input.schema (told a.disk) (lot_at a.lots from (empty 0 0))
      input_rows = ap (rows_under told a) link.found ∙ ap (λ n. tuples_in link.input.schema (told a.disk) (lot_at a.lots n (empty 0 0))) link.number

      go : (n : ℕ) (o : Option Node) → node_at nodes n ≡ o → n ≢ node.number → rows_under told b (node_at nodes n) ≡ rows_under told a (node_at nodes n)
      go n None e far = ap (rows_under told b) e ∙ sym (ap (rows_under told a) e)
      go n (Some x) e far =
          let number : x.number ≡ n = found_number nodes n x e in
          ap (rows_under told b) e ∙ (other x (empty 0 0) (ap (node_at nodes) number ∙ e) (λ is. far (sym number ∙ is))).1 ∙ sym (ap (rows_under told a) e)
