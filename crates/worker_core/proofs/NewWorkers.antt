-- A worker that was opened, and one that ends.
use Rattle.std.proofs.Common.{◌≡◌, inl, inr, ◌==◌, true, set, ℕ, suc, ◌+◌, ◌*◌, ◌/◌, ◌^◌, ◌<◌, ◌≤◌, Bool, All, List, [], ◌∷◌, length, replicate, sum_by, Option, Some, None, refl, sym, ap, ◌∙◌, subst, arith, le-div_iff_mul-le, div-le_self}
use Rattle.std.proofs.Math.Nat.{mul-div-le}
use Rattle.std.proofs.lemmas.List.{get_or-replicate, get_or-set_other, get_or-set_same, length-replicate, length-set}
use Rattle.std.proofs.lemmas.Bool.{cases_eq, false≢true}
use Rattle.std.proofs.lemmas.List.Folds.{sum_by-replicate}
use Rattle.std.proofs.lemmas.List.Elements.{All-head, All-nil, All-tail}
use Rattle.std.proofs.lemmas.List.Sums.{sum_by-cons, sum_by-set}
use Rattle.segment_core.specs.Segments.{PurseView, count_other_size, segment_sum}
use Rattle.flow_outside.specs.Blocks.{Blocks}
use Rattle.flow_outside.specs.Told.{IfTold}
use Rattle.flow_types.specs.Records.{IsTupleOf}
use Rattle.flow_model.specs.declared.plan.Node.{Node}
use Rattle.flow_model.specs.declared.plan.Plan.{Plan}
use Rattle.flow_model.specs.Rules.{IsPlan, node_at, passes}
use Rattle.flow_model.specs.Segments.{extra, reach, share, work_minimum, worker_minimum}
use Rattle.lot_store.specs.Lots.{LotView, empty, held}
use Rattle.lot_store.specs.Storage.{IsReadyAt, Stand, StandsAt, held_count, held_sum, lot_at, rooms, times_in}
use Rattle.plan_need.specs.declared.budget.Allot.{Allot}
use Rattle.row_pipe.specs.declared.row_pipe.RowPipe.{RowPipe}
use Rattle.worker_storage.specs.Storages.{HoldsSome, KeepsStorage, Storage}
use Rattle.worker_storage.proofs.Lifting.{whole}
use Rattle.worker_core.specs.Workers.{HasPipes, HoldsNodes, IsAllotmentOf, IsNew, IsShareOf, rows_under, tuples_in}
use Rattle.worker_core.proofs.PlanFacts.{found_low, found_number}

-- ---- a share

-- A share has what an operator needs beside what keeps datasets.
share_holds : (plan : Plan) (allot : Allot) → IsAllotmentOf plan allot → work_minimum plan + allot.cache ≤ allot.share
share_holds plan allot a =
    subst (λ (x : Allot). work_minimum plan + x.cache ≤ x.share) (sym a.is) (omega (arith, enough, div-le_self (extra plan a.workers a.budget) 3))
  where
    swapped : (m n : ℕ) → m * n ≡ n * m
    swapped m n = omega arith

    enough : worker_minimum plan a.workers ≤ share a.workers a.budget
    enough = (le-div_iff_mul-le {k = a.workers} {x = worker_minimum plan a.workers} {y = a.budget} (omega (arith, a.some))).1 (omega (arith, a.enough, swapped a.workers (worker_minimum plan a.workers)))

-- ---- lots that hold nothing

module _ (count room most bare : ℕ) (inside : bare < count) where
  base : List LotView
  base = replicate count (empty room most)

  abbrev pub lots : List LotView
  lots = set (replicate count (empty room most)) bare (empty 0 most)

  low : bare < length (replicate count (empty room most))
  low = omega (arith, inside, length-replicate count (empty room most))

  pub long : length lots ≡ count
  long = length-set (replicate count (empty room most)) bare (empty 0 most) ∙ length-replicate count (empty room most)

  -- what is so of an empty lot of either room is so of each
  at_each : (P : LotView → Type 0) → P (empty room most) → P (empty 0 most) → (i : ℕ) (d : LotView) → i < length lots → P (lot_at lots i d)
  at_each P one other i d small = elim (cases_eq i bare) [
    | inl is ↦ subst (λ k. P (lot_at lots k d)) (sym is) (subst P (sym (get_or-set_same (replicate count (empty room most)) bare (empty 0 most) d low)) other)
    | inr far ↦
        subst P (sym (get_or-set_other (replicate count (empty room most)) bare i (empty 0 most) d far ∙ get_or-replicate count i (empty room most) d (omega (arith, small, long)))) one
  ]

  bare_room : (d : LotView) → (lot_at lots bare d).stored.room ≡ 0
  bare_room d = ap (λ (l : LotView). l.stored.room) (get_or-set_same (replicate count (empty room most)) bare (empty 0 most) d low)

  -- what empty lots don't weigh, all don't
  nothing : (f : LotView → ℕ) → f (empty room most) ≡ 0 → f (empty 0 most) ≡ 0 → sum_by f lots ≡ 0
  nothing f one other =
      omega (arith, sum_by-set f (replicate count (empty room most)) bare (empty 0 most) (empty 0 most) low, sum_by-replicate f count (empty room most) ∙ ap (λ k. count * k) one ∙ times_none count, other)
    where
      times_none : (n : ℕ) → n * 0 ≡ 0
      times_none n = omega arith

  none_held : held_count lots ≡ 0
  none_held = nothing (λ lot. length (held lot)) refl refl

  none_weighed : (h : ℕ → ℕ → ℕ) → held_sum h lots ≡ 0
  none_weighed h = nothing (λ lot. segment_sum h (held lot)) refl refl

  all_rooms : rooms lots ≤ count * room
  all_rooms =
      omega (arith, sum_by-set (λ (lot : LotView). lot.stored.room) (replicate count (empty room most)) bare (empty 0 most) (empty 0 most) low, sum_by-replicate (λ (lot : LotView). lot.stored.room) count (empty room most))

  stand_empty : (size : ℕ) (purse : PurseView) (m : Blocks) → count_other_size size purse.pages ≡ 0 → Stand size purse.pages lots m
  stand_empty size purse m sized = record {
    sized = omega (arith, sized, nothing (λ lot. count_other_size size (held lot)) refl refl);
    each = at_each (StandsAt size m) (record { spilled = tt; reads = λ block left. absurd left }) (record { spilled = tt; reads = λ block left. absurd left });
    apart = λ block. omega (arith, nothing (times_in m block) refl refl);
  }

  pub ready_empty : (size : ℕ) (told : Option Blocks) (purse : PurseView) → count_other_size size purse.pages ≡ 0 → length purse.pages ≤ purse.room → IsReadyAt size (whole told purse lots)
  ready_empty size told purse sized fits = record { room = omega (arith, fits, none_held); stand = known told }
    where
      known : (t : Option Blocks) → IfTold t (Stand size purse.pages lots)
      known None = tt
      known (Some m) = stand_empty size purse m sized

-- An empty lot holds the rows of no tuples.
holds_none : (fields : _) (room most : ℕ) (m : Blocks) → HoldsSome fields (empty room most) m
holds_none fields room most m = ([], record { records = record { bytes = refl; lengths = All-nil (λ row. length row < 2 ^ 32); reach = tt }; fitting = All-nil (IsTupleOf fields) })

-- ---- a new worker

-- the number of the result is below how many lots there are
pub result_low : (plan : Plan) (count : ℕ) → IsPlan plan → count ≡ length plan.nodes + 1 → plan.result < count
result_low plan count rules counted = go (node_at plan.nodes plan.result) refl rules.result
  where
    go : (o : Option Node) → node_at plan.nodes plan.result ≡ o → passes (λ (m : Node). m.home == 0) o ≡ true → plan.result < count
    go None e is = absurd (false≢true is)
    go (Some node) e is = omega (arith, found_low 1 plan.nodes plan.result node rules.numbers e, counted)

new_worker : {D : Type 0} (told : D → Option Blocks) (plan : Plan) (allot : Allot) (me count : ℕ) (purse : PurseView) (disk : D) (pipes : List (Option RowPipe)) → IsPlan plan → IsAllotmentOf plan allot → IsShareOf plan allot purse
    → count ≡ length plan.nodes + 1 → HasPipes plan.nodes pipes
    → IsNew told plan allot me purse disk (record { me = me; workers = allot.workers; storage = record { size = plan.segment; purse = purse; disk = disk; lots = set (replicate count (empty (allot.cache / count) (reach plan))) plan.result (empty 0 (reach plan)) }; pipes = pipes })
new_worker told plan allot me count purse disk pipes rules allotted shared counted have = record {
  me = refl;
  workers = refl;
  purse = refl;
  disk = refl;
  sound = record {
    worker = record {
      count = long count room most plan.result inside ∙ counted ∙ swap (length plan.nodes);
      size = refl;
      reach = at_each count room most plan.result inside (λ lot. lot.feed.reach ≡ most) refl refl;
      rests = at_each count room most plan.result inside (λ lot. length (held lot) ≤ lot.stored.room) (omega arith) (omega arith);
      bare = bare_room count room most plan.result inside;
      budget = omega (arith, none_held count room most plan.result inside, all_rooms count room most plan.result inside, mul-div-le allot.cache count, share_holds plan allot allotted, shared.count);
      pipes = have;
    };
    holds = known (told disk);
  };
  held = none_weighed count room most plan.result inside;
  rows = λ n. under n (node_at plan.nodes n) refl;
}
  where
    room : ℕ
    room = allot.cache / count

    most : ℕ
    most = reach plan

    inside : plan.result < count
    inside = result_low plan count rules counted

    swap : (k : ℕ) → k + 1 ≡ suc k
    swap k = omega arith

    small : (x : Node) → node_at plan.nodes x.number ≡ Some x → x.number < length (lots count room most plan.result inside)
    small x there = omega (arith, found_low 1 plan.nodes x.number x rules.numbers there, long count room most plan.result inside, counted)

    known : (t : Option Blocks) → IfTold t (HoldsNodes plan.nodes (lots count room most plan.result inside))
    known None = tt
    known (Some m) = λ x d there. at_each count room most plan.result inside (λ lot. HoldsSome x.schema lot m) (holds_none x.schema room most m) (holds_none x.schema 0 most m) x.number d (small x there)

    no_tuples : (fields : _) (t : Option Blocks) (r : ℕ) → tuples_in fields t (empty r most) ≡ []
    no_tuples fields None r = refl
    no_tuples fields (Some m) r = refl

    under : (n : ℕ) (o : Option Node) → node_at plan.nodes n ≡ o → rows_under told (record { size = plan.segment; purse = purse; disk = disk; lots = lots count room most plan.result inside }) o ≡ []
    under n None e = refl
    under n (Some x) e =
        at_each count room most plan.result inside (λ lot. tuples_in x.schema (told disk) lot ≡ []) (no_tuples x.schema (told disk) room) (no_tuples x.schema (told disk) 0) x.number (empty 0 0)
        (small x (ap (node_at plan.nodes) (found_number plan.nodes n x e) ∙ e))

-- The same, where the numbers are equal to those.
pub new_from : {D : Type 0} (told : D → Option Blocks) (plan : Plan) (allot : Allot) (me count most : ℕ) (purse : PurseView) (disk : D) (pipes : List (Option RowPipe)) (s : Storage D) → IsPlan plan → IsAllotmentOf plan allot → IsShareOf plan allot purse
    → count ≡ length plan.nodes + 1 → most ≡ reach plan → HasPipes plan.nodes pipes → s ≡ record { size = plan.segment; purse = purse; disk = disk; lots = set (replicate count (empty (allot.cache / count) most)) plan.result (empty 0 most) }
    → IsNew told plan allot me purse disk (record { me = me; workers = allot.workers; storage = s; pipes = pipes })
new_from {D} told plan allot me count most purse disk pipes s rules allotted shared counted reaches have is =
    subst (λ (x : Storage D). IsNew told plan allot me purse disk (record { me = me; workers = allot.workers; storage = x; pipes = pipes })) (sym (is ∙ ap all_with reaches))
    (new_worker told plan allot me count purse disk pipes rules allotted shared counted have)
  where
    all_with : ℕ → Storage D
    all_with k = record { size = plan.segment; purse = purse; disk = disk; lots = set (replicate count (empty (allot.cache / count) k)) plan.result (empty 0 k) }

-- ---- the end

-- Emptied lots hold nothing.
pub all_emptied : {D : Type 0} (a b : Storage D) → length b.lots ≡ length a.lots → ((i : ℕ) (d : LotView) → i < length a.lots → lot_at b.lots i d ≡ empty (lot_at a.lots i d).stored.room (lot_at a.lots i d).feed.reach)
    → All (λ (lot : LotView). held lot ≡ []) b.lots
all_emptied a b count each i d low = ap held (each i d (omega (arith, low, count)))

none_held_sum : (h : ℕ → ℕ → ℕ) (lots : List LotView) → All (λ (lot : LotView). held lot ≡ []) lots → held_sum h lots ≡ 0
none_held_sum h [] all = refl
none_held_sum h (lot ∷ lots) all =
    let first : held lot ≡ [] = All-head (λ (l : LotView). held l ≡ []) lot lots all in
    let weighs : segment_sum h (held lot) ≡ 0 = ap (segment_sum h) first in
    omega (arith, sum_by-cons (λ (l : LotView). segment_sum h (held l)) lot lots, weighs, none_held_sum h lots (All-tail (λ (l : LotView). held l ≡ []) lot lots all))

pub all_home : {D : Type 0} (told : D → Option Blocks) (a b : Storage D) (places : List ℕ) (tidy : Bool) → KeepsStorage told a b places places tidy → All (λ (lot : LotView). held lot ≡ []) b.lots
    → (h : ℕ → ℕ → ℕ) → segment_sum h b.purse.pages ≡ segment_sum h a.purse.pages + held_sum h a.lots
all_home told a b places tidy keeps none h = omega (arith, keeps.preserves.segments h, none_held_sum h b.lots none)

-- A storage whose lots are these.
pub with_lots : {D : Type 0} (size : ℕ) (purse : PurseView) (disk : D) (xs ys : List LotView) → xs ≡ ys → ◌≡◌ {A = Storage D} (record { size = size; purse = purse; disk = disk; lots = xs }) (record { size = size; purse = purse; disk = disk; lots = ys })
with_lots {D} size purse disk xs ys is = ap all is
  where
    all : List LotView → Storage D
    all ls = record { size = size; purse = purse; disk = disk; lots = ls }

-- A lot that was taken from among new ones holds nothing.
pub taken_none : (count room most at : ℕ) (given : LotView) (all : List LotView) → at < count → all ≡ replicate count (empty room most) → ((d : LotView) → given ≡ lot_at all at d) → held given ≡ []
taken_none count room most at given all inside is found =
    ap held (found given ∙ ap (λ ls. lot_at ls at given) is ∙ get_or-replicate count at (empty room most) given inside)
