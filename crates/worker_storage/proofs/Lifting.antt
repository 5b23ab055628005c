-- From the lots at some places to all lots of a storage.
use Rattle.std.proofs.Common.{Result, Ok, Err, OnOk, ◌≡◌, ◌≢◌, inl, inr, ℕ, zero, suc, ◌+◌, ◌<◌, ◌≤◌, Bool, true, false, All, List, [], ◌∷◌, ◌++◌, length, map, Option, Some, None, refl, sym, ap, ◌∙◌, subst, arith, is_ok, append-nil, sum_by, cond, not, ◌==◌, take, drop}
use Rattle.std.proofs.Math.ListN.{drop_of_length-le}
use Rattle.std.proofs.lemmas.List.{take_all}
use Rattle.std.proofs.lemmas.Bool.{cases_eq, cases_lt}
use Rattle.std.proofs.lemmas.Bool.Decides.{nat_tests}
use Rattle.std.proofs.lemmas.List.Elements.{All-head, All-tail}
use Rattle.std.proofs.lemmas.List.Sums.{sum_by-cons}
use Rattle.std.specs.List.{range_with_len}
use Rattle.segment_core.specs.Segments.{PurseView, SegmentView, count_other_size}
use Rattle.flow_outside.specs.Blocks.{Blocks, BothTold}
use Rattle.flow_outside.specs.Causes.{HasStreamCause}
use Rattle.flow_outside.specs.Told.{IfTold}
use Rattle.flow_outside.specs.declared.failure.StreamFault.{StreamFault}
use Rattle.lot_store.specs.LotCalls.{AppendsRow, KeepsContents}
use Rattle.lot_store.specs.Lots.{HoldsRows, LotView, empty, held}
use Rattle.lot_store.specs.Rows.{Gains, rows_in, rows_of}
use Rattle.flow_types.specs.Types.{Fields}
use Rattle.flow_types.specs.Records.{IsTupleOf, form, tuple_of}
use Rattle.flow_model.specs.Env.{Tuples}
use Rattle.record_codec.proofs.RecordLemmas.{reads_as_written}
use Rattle.row_pipe.specs.Pipes.{GivesRows, GivesWithin, HoldsTuples, HoldsWhatFits, MayPass, Passes}
use Rattle.row_pipe.proofs.Turning.{cause_later}
use Rattle.row_pipe.specs.Works.{piped}
use Rattle.row_pipe.specs.declared.work.Work.{Work}
use Rattle.lot_store.specs.Storage.{IsNoneOf, IsReady, IsReadyAt, Preserves, Stand, StaysStanding, StorageView, alone, held_count, lot_at, places_at, with_segment}
use Rattle.lot_store.proofs.LotLemmas.{on_ok_map}
use Rattle.lot_store.proofs.RowsRead.{gains_of, rows_read}
use Rattle.spool.proofs.SpillLemmas.{told_with}
use Rattle.lot_store.proofs.StorageLaws.{counts_after, freed_all, preserves_join, preserves_more, preserves_none, preserves_within, ready_of_at, ready_part, stand_part}
use Rattle.lot_store.proofs.StorageLot.{one_stands}
use Rattle.lot_store.proofs.StorageSums.{picked, split_sum}
use Rattle.lot_store.proofs.Telling.{told_map, told_weaker}
use Rattle.worker_storage.specs.Storages.{FreesAll, HoldsSome, IsShort, KeepsStorage, MayRead, Storage, all_places, given, view_of}

-- the storage's purse, disk and lots
abbrev pub whole : Option Blocks → PurseView → List LotView → StorageView
whole told purse lots = record { told = told; purse = purse; lots = lots }

-- a list with a place isn't empty
pub first_of : (lots : List LotView) (at : ℕ) → at < length lots → LotView
first_of [] at low = absurd (omega (arith, low))
first_of (lot ∷ lots) at low = lot

-- a place of the list is one of the list that the fields hold
pub low_in : {D : Type 0} (s r : Storage D) (at : ℕ) → s ≡ r → at < length r.lots → at < length s.lots
low_in s r at is low = subst (λ x. at < length x.lots) (sym is) low

-- A list that was lent as a slice and came back has what the slice has.
pub written_back : (n : ℕ) (ys xs : List LotView) → length ys ≡ length xs → length xs ≡ n → take n (ys ++ drop (length ys) xs) ≡ ys
written_back n ys xs same is =
    ap (λ zs. take n (ys ++ zs)) (drop_of_length-le xs (omega (arith, same))) ∙ ap (take n) (append-nil ys) ∙ take_all n ys (omega (arith, same, is))

-- A call may work on the lot at a place.
pub ready_at : (size : ℕ) (t : Option Blocks) (p : PurseView) (lots : List LotView) (at : ℕ) (d : LotView) → at < length lots → IsReadyAt size (whole t p lots) → IsReady (alone t p (lot_at lots at d))
ready_at size t p lots at d low ready = ready_part (at ∷ []) (whole t p lots) d (tt, tt) (low, tt) (ready_of_at size (whole t p lots) ready)

-- What it keeps of that lot, it keeps of all.
pub lifted : (t u : Option Blocks) (p q : PurseView) (xs ys : List LotView) (at : ℕ) (ws : List ℕ) (tidy : Bool) → at < length xs → length ys ≡ length xs → ((i : ℕ) (d : LotView) → i ≢ at → lot_at ys i d ≡ lot_at xs i d)
    → ((d : LotView) → Preserves (alone t p (lot_at xs at d)) (alone u q (lot_at ys at d)) (0 ∷ []) ws tidy) → Preserves (whole t p xs) (whole u q ys) (at ∷ []) (places_at (at ∷ []) ws) tidy
lifted t u p q xs ys at ws tidy low count same one =
    preserves_within (at ∷ []) (whole t p xs) (whole u q ys) (first_of xs at low) (tt, tt) (low, tt) count (λ i e none. same i e none.0) (0 ∷ []) ws tidy (one (first_of xs at low))

-- of lots that stand, one
pub stand_one_of : (size : ℕ) (p : PurseView) (xs : List LotView) (at : ℕ) (d : LotView) (m : Blocks) → at < length xs → Stand size p.pages xs m → Stand size p.pages (lot_at xs at d ∷ []) m
stand_one_of size p xs at d m low s =
    stand_part (at ∷ []) (whole None p xs) (whole None p xs) d (tt, tt) (low, tt) refl (λ i e none. refl) size m s

-- What was added, as a function of the rows.
pub gained_row : {E : Type 0} (answer : Result Unit E) (size : ℕ) (t u : Option Blocks) (p : PurseView) (xs : List LotView) (at : ℕ) (d b : LotView) (row : List ℕ) → at < length xs → IfTold t (Stand size p.pages xs) → IsShort size (lot_at xs at d).feed.reach (length row)
    → OnOk answer (BothTold t u (AppendsRow (lot_at xs at d) b p.pages row)) → OnOk answer (BothTold t u (Gains (lot_at xs at d) b (row ∷ [])))
gained_row answer size t u p xs at d b row low stand short added =
    on_ok_map answer (BothTold t u (AppendsRow (lot_at xs at d) b p.pages row)) (BothTold t u (Gains (lot_at xs at d) b (row ∷ [])))
    (λ h. told_with t u (Stand size p.pages xs) (AppendsRow (lot_at xs at d) b p.pages row) (Gains (lot_at xs at d) b (row ∷ []))
    (λ m n s k. gains_of m n (lot_at xs at d) b (row ∷ []) (λ w. k.rows size (one_stands size p.pages (lot_at xs at d) m (stand_one_of size p xs at d m low s)) (rows_in m (lot_at xs at d)) w short)) stand h)
    added

pub gained_none : {E : Type 0} (answer : Result Unit E) (t u : Option Blocks) (a b : LotView) → OnOk answer (BothTold t u (KeepsContents a b)) → OnOk answer (BothTold t u (Gains a b []))
gained_none answer t u a b kept =
    on_ok_map answer (BothTold t u (KeepsContents a b)) (BothTold t u (Gains a b []))
    (λ h. told_map t u (KeepsContents a b) (Gains a b []) (λ m n k. gains_of m n a b [] (λ w. subst (HoldsRows n b) (sym (append-nil (rows_in m a))) (k.rows (rows_in m a) w))) h)
    kept

-- a page more in the purse, of the size of the others
pub ready_with_page : (size : ℕ) (t : Option Blocks) (p : PurseView) (xs : List LotView) (page : SegmentView) → length page.bytes ≡ size → length p.pages + held_count xs < p.room → IsReadyAt size (whole t p xs) → IsReadyAt size (whole t (with_segment page p) xs)
ready_with_page size t p xs page sized room ready = record {
  room = omega (arith, room);
  stand = told_weaker t (Stand size p.pages xs) (Stand size (page ∷ p.pages) xs) (λ m s. record {
    sized = omega (arith, s.sized, more);
    each = s.each;
    apart = s.apart;
  }) ready.stand;
}
  where
    here : ◌≡◌ {A = ℕ} (cond (not (length page.bytes == size)) 1 0) 0
    here = grind (arith, nat_tests)

    more : count_other_size size (page ∷ p.pages) ≡ count_other_size size p.pages
    more = omega (arith, here, sum_by-cons (λ (q : SegmentView). cond (not (length q.bytes == size)) 1 0) page p.pages)

-- The lots at two places, of which the second was written.
pub lifted_two : (t u : Option Blocks) (p q : PurseView) (xs ys : List LotView) (from to : ℕ) → from < length xs → to < length xs → from ≢ to → length ys ≡ length xs → ((i : ℕ) (d : LotView) → i ≢ from → i ≢ to → lot_at ys i d ≡ lot_at xs i d)
    → ((d : LotView) → Passes t u (lot_at xs from d) (lot_at ys from d) (lot_at xs to d) (lot_at ys to d) p q) → Preserves (whole t p xs) (whole u q ys) (from ∷ to ∷ []) (to ∷ []) true
lifted_two t u p q xs ys from to low low_to far count same passes =
    preserves_within (from ∷ to ∷ []) (whole t p xs) (whole u q ys) (first_of xs from low) ((far, tt), (tt, tt)) (low, (low_to, tt)) count (λ i e none. same i e none.0 none.1.0) (0 ∷ 1 ∷ []) (1 ∷ []) true (passes (first_of xs from low))

-- A pass may go from one to the other.
pub may_pass : (size : ℕ) (t : Option Blocks) (p : PurseView) (xs : List LotView) (from to : ℕ) (d : LotView) → from < length xs → to < length xs → from ≢ to → IsReadyAt size (whole t p xs) → MayRead p (lot_at xs from d) → MayPass (lot_at xs from d) (lot_at xs to d) p
may_pass size t p xs from to d low low_to far ready may = record {
  supply = may.supply;
  rests = may.rests;
  room = (ready_part (from ∷ to ∷ []) (whole t p xs) d ((far, tt), (tt, tt)) (low, (low_to, tt)) (ready_of_at size (whole t p xs) ready)).room;
}

pub holds_what_fits : (size : ℕ) (t : Option Blocks) (p : PurseView) (xs : List LotView) (from to : ℕ) (d : LotView) (fields : Fields) (w : Work) → from < length xs → to < length xs → from ≢ to → IsReadyAt size (whole t p xs)
    → GivesWithin fields w size (lot_at xs to d).feed.reach → IfTold t (HoldsSome fields (lot_at xs from d)) → IfTold t (HoldsWhatFits fields w (lot_at xs from d) (lot_at xs to d) p.pages)
holds_what_fits size None p xs from to d fields w low low_to far ready within holds = tt
holds_what_fits size (Some m) p xs from to d fields w low low_to far ready within (tuples, holds) = record {
  places = record {
    size = size;
    stand = stand_part (from ∷ to ∷ []) (whole None p xs) (whole None p xs) d ((far, tt), (tt, tt)) (low, (low_to, tt)) refl (λ i e none. refl) size m ready.stand;
    within = within;
  };
  tuples = tuples;
  holds = holds;
}

-- the tuples that records are read as are those that they were made of
pub read_back : (fields : Fields) (tuples : Tuples) → All (IsTupleOf fields) tuples → map (tuple_of fields) (map form tuples) ≡ tuples
read_back fields [] fit = refl
read_back fields (t ∷ tuples) fit =
    ap (λ u. u ∷ map (tuple_of fields) (map form tuples)) (reads_as_written fields t (form t) (record { tuple = All-head (IsTupleOf fields) t tuples fit; formed = refl }))
    ∙ ap (λ us. t ∷ us) (read_back fields tuples (All-tail (IsTupleOf fields) t tuples fit))

pub given_is : (fields : Fields) (w : Work) (m : Blocks) (lot : LotView) (tuples : Tuples) → HoldsTuples fields m lot tuples → given fields w (rows_in m lot) ≡ map form (piped w tuples)
given_is fields w m lot tuples holds =
    ap (given fields w) (rows_read m lot (map form tuples) holds.records) ∙ ap (λ ts. map form (piped w ts)) (read_back fields tuples holds.fitting)

pub gained_rows : {E : Type 0} (answer : Result Unit E) (t u : Option Blocks) (fields : Fields) (w : Work) (input a b : LotView) → IfTold t (HoldsSome fields input) → OnOk answer (BothTold t u (GivesRows fields w input a b))
    → OnOk answer (BothTold t u (Gains a b (given fields w (rows_of t input))))
gained_rows answer t u fields w input a b holds gives =
    on_ok_map answer (BothTold t u (GivesRows fields w input a b)) (BothTold t u (Gains a b (given fields w (rows_of t input)))) (gained t u holds) gives
  where
    gained : (s z : Option Blocks) → IfTold s (HoldsSome fields input) → BothTold s z (GivesRows fields w input a b) → BothTold s z (Gains a b (given fields w (rows_of s input)))
    gained None None h g = tt
    gained None (Some n) h g = g
    gained (Some m) None h g = g
    gained (Some m) (Some n) (tuples, h) g =
        subst (λ rows. Gains a b rows m n) (sym (given_is fields w m input tuples h)) (gains_of m n a b (map form (piped w tuples)) (λ whole_too. g tuples (rows_in m a) h whole_too))

-- All places are touched: a place that is none of them is past the end.
pub past_places : (i start count : ℕ) → IsNoneOf i (range_with_len start count) → start ≤ i → start + count ≤ i
past_places i start zero none more = omega (arith, more)
past_places i start (suc count) none more =
    omega (arith, past_places i (start + 1) count none.1 (omega (arith, more, differ i start none.0 more)))
  where
    differ : (i start : ℕ) → i ≢ start → start ≤ i → start < i
    differ i start far more = elim (cases_lt start i) [ inl low ↦ low | inr high ↦ absurd (far (omega (arith, more, high))) ]

none_at : (i at count : ℕ) → at < count → IsNoneOf i (range_with_len 0 count) → IsNoneOf i (at ∷ [])
none_at i at count low none = (λ is. absurd (omega (arith, past_places i 0 count none (omega arith), is, low)), tt)

-- One lot more was emptied.
pub keeps_more : {D : Type 0} (told : D → Option Blocks) (a b c : Storage D) (at : ℕ) (before now after : Bool) → at < length a.lots → (after ≡ true → before ≡ true) → (after ≡ true → now ≡ true)
    → KeepsStorage told a b (all_places (length a.lots)) (all_places (length a.lots)) before → KeepsStorage told b c (at ∷ []) (at ∷ []) now → KeepsStorage told a c (all_places (length a.lots)) (all_places (length a.lots)) after
keeps_more told a b c at before now after low first next f g = record {
  size = g.size ∙ f.size;
  preserves = preserves_join (view_of told a) (view_of told b) (view_of told c) (all_places (length a.lots)) (all_places (length a.lots)) after
      (preserves_more (view_of told a) (view_of told b) (all_places (length a.lots)) (all_places (length a.lots)) (all_places (length a.lots)) (all_places (length a.lots)) before after (λ i none. none) (λ i none. none) first f.preserves)
      (preserves_more (view_of told b) (view_of told c) (at ∷ []) (at ∷ []) (all_places (length a.lots)) (all_places (length a.lots)) now after (λ i none. none_at i at (length a.lots) low none) (λ i none. none_at i at (length a.lots) low none) next g.preserves);
}

pub keeps_nothing : {D : Type 0} (told : D → Option Blocks) (a : Storage D) (places : List ℕ) → KeepsStorage told a a places places true
keeps_nothing told a places = record {
  size = refl;
  preserves = preserves_more (view_of told a) (view_of told a) [] [] places places true true (λ i none. tt) (λ i none. tt) (λ is. is) (preserves_none (view_of told a));
}

-- The purse doesn't lose a segment where a lot is emptied.
pub purse_grows : {D : Type 0} (told : D → Option Blocks) (a b : Storage D) (at room reach : ℕ) (tidy : Bool) (d : LotView) → at < length a.lots → KeepsStorage told a b (at ∷ []) (at ∷ []) tidy → lot_at b.lots at d ≡ empty room reach
    → length a.purse.pages ≤ length b.purse.pages
purse_grows told a b at room reach tidy d low keeps is =
    let count : LotView → ℕ = λ (lot : LotView). length (held lot) in
    let sums : sum_by count b.lots + sum_by count (picked a.lots (at ∷ []) d) ≡ sum_by count a.lots + sum_by count (picked b.lots (at ∷ []) d) =
    split_sum (at ∷ []) a.lots b.lots d (tt, tt) (low, tt) keeps.preserves.count count count (λ k inside none. ap count (keeps.preserves.same k d none)) in
    let none : count (lot_at b.lots at d) ≡ 0 = ap count is in
    omega (arith, sums, none, sum_by-cons count (lot_at b.lots at d) [], counts_after (view_of told a) (view_of told b) (at ∷ []) (at ∷ []) tidy keeps.preserves)

-- One lot more is empty.
pub empty_more : {D : Type 0} (told : D → Option Blocks) (a b c : Storage D) (at : ℕ) (places : List ℕ) (before now : Bool) → KeepsStorage told a b places places before → KeepsStorage told b c (at ∷ []) (at ∷ []) now
    → ((i : ℕ) (d : LotView) → i < at → lot_at b.lots i d ≡ empty (lot_at a.lots i d).stored.room (lot_at a.lots i d).feed.reach)
    → ((d : LotView) → lot_at c.lots at d ≡ empty (lot_at b.lots at d).stored.room (lot_at b.lots at d).feed.reach)
    → (i : ℕ) (d : LotView) → i < at + 1 → lot_at c.lots i d ≡ empty (lot_at a.lots i d).stored.room (lot_at a.lots i d).feed.reach
empty_more told a b c at places before now f g below here i d low = elim (cases_eq i at) [
  | inl is ↦
      subst (λ n. lot_at c.lots n d ≡ empty (lot_at a.lots n d).stored.room (lot_at a.lots n d).feed.reach) (sym is)
      (here d ∙ ap (λ n. empty n (lot_at b.lots at d).feed.reach) (f.preserves.rooms at d) ∙ ap (empty (lot_at a.lots at d).stored.room) (f.preserves.reach at d))
  | inr far ↦ g.preserves.same i d (far, tt) ∙ below i d (omega (arith, low, far))
]

-- The first fault, or the next.
pub cause_first : (a b c : ℕ) (t u : Option Blocks) (P : Blocks → Blocks → Type 0) (first next answer : Result Unit StreamFault) → (is_ok first ≡ true → answer ≡ next) → (is_ok first ≡ false → answer ≡ first) → BothTold t u P
    → HasStreamCause a b t first → HasStreamCause b c u next → HasStreamCause a c t answer
cause_first a b c t u P (Ok done) next answer same fault told f g =
    subst (λ r. HasStreamCause a c t r) (sym (same refl)) (cause_later a b c t u next P f.later told g)
cause_first a b c t u P (Err wrong) next answer same fault told f g =
    subst (λ r. HasStreamCause a c t r) (sym (fault refl)) (record {
      later = omega (arith, f.later, g.later);
      spill = λ is. omega (arith, f.spill is, g.later);
      damaged = f.damaged;
    })

-- Every block is free where no lot has a run.
pub frees_all : {E : Type 0} {D : Type 0} (told : D → Option Blocks) (answer : Result Unit E) (a b : Storage D) (places : List ℕ) → IsReadyAt a.size (view_of told a) → KeepsStorage told a b places places (is_ok answer) → All (λ (lot : LotView). lot.stored.run ≡ None) b.lots
    → OnOk answer (BothTold (told a.disk) (told b.disk) (FreesAll a.lots))
frees_all told (Err fault) a b places ready keeps none = tt
frees_all told (Ok value) a b places ready keeps none =
    told_known (told a.disk) (told b.disk) refl refl keeps.preserves.told
  where
    told_known : (t u : Option Blocks) → told a.disk ≡ t → told b.disk ≡ u → BothTold (told a.disk) (told b.disk) (StaysStanding (view_of told a) (view_of told b) places true) → BothTold t u (FreesAll a.lots)
    told_known None None was now h = tt
    told_known None (Some n) was now h = subst (λ o. BothTold None o (StaysStanding (view_of told a) (view_of told b) places true)) now (subst (λ o. BothTold o (told b.disk) (StaysStanding (view_of told a) (view_of told b) places true)) was h)
    told_known (Some m) None was now h = subst (λ o. BothTold (Some m) o (StaysStanding (view_of told a) (view_of told b) places true)) now (subst (λ o. BothTold o (told b.disk) (StaysStanding (view_of told a) (view_of told b) places true)) was h)
    told_known (Some m) (Some n) was now h =
        freed_all (view_of told a) (view_of told b) places places m n (record { ready = ready_of_at a.size (view_of told a) ready; preserves = keeps.preserves }) was now none
