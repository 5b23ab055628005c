-- The rows of a lot are read.
use Rattle.std.proofs.Common.{◌≡◌, ℕ, ◌+◌, ◌≤◌, Bool, true, false, All, List, [], ◌∷◌, ◌++◌, length, map, Result, Ok, Err, Option, Some, None, refl, sym, ap, ◌∙◌, subst, arith, append-nil, append_assoc, is_some}
use Rattle.std.specs.Prelude.{IfOk, IsErrOf}
use Rattle.std.proofs.lemmas.List.Elements.{All-head, All-tail}
use Rattle.std.proofs.lemmas.List.Sums.{sum_by-cons}
use Rattle.segment_core.specs.Segments.{PoolView, PurseView, SegmentView, count_other_size, segment_sum}
use Rattle.segment_core.specs.Ledger.{IsLedger, Leases}
use Rattle.segment_core.proofs.Holders.{IsLedger-segment_sum_all}
use Rattle.flow_outside.specs.Blocks.{Blocks, BothTold}
use Rattle.flow_outside.specs.Causes.{HasStreamCause}
use Rattle.flow_outside.specs.Told.{IfTold}
use Rattle.flow_outside.specs.declared.failure.StreamFault.{StreamFault}
use Rattle.flow_outside.specs.declared.failure.StreamFault.TheVariants as stream_fault
use Rattle.flow_types.specs.Records.{IsRecord, IsTupleOf, form, tuple_of}
use Rattle.flow_types.specs.Types.{Fields}
use Rattle.flow_model.specs.declared.plan.Node.{Node}
use Rattle.flow_model.specs.declared.plan.Plan.{Plan}
use Rattle.flow_model.specs.Rules.{node_at}
use Rattle.flow_model.specs.Env.{Tuples}
use Rattle.paged_view.specs.Streams.{Advances, KnowsRows}
use Rattle.page_feed.specs.Feeds.{HasLeft, lent}
use Rattle.record_codec.proofs.RecordLemmas.{reads_as_written}
use Rattle.lot_store.specs.LotCalls.{Reads}
use Rattle.lot_store.specs.Lots.{HoldsRows, IsLeft, LotView, held, pages_of}
use Rattle.lot_store.specs.Storage.{IsReadyAt, Preserves, Stand, StaysStanding, alone}
use Rattle.lot_store.specs.Stores.{PagesView}
use Rattle.lot_store.proofs.StorageLaws.{preserves_join, preserves_more, preserves_none}
use Rattle.spool.specs.Spilling.{HasWriteCause}
use Rattle.worker_storage.specs.Storages.{HoldsSome}
use Rattle.worker_core.specs.Workers.{tuples_in}
use Rattle.worker_core.proofs.Passing.{rows_are, stays}
use Rattle.superstep.specs.Emitting.{AddsShown, Collects, HasReadingCause, IsLeftOf, KeepsPlace, LiesAlone, of_stream}
use Rattle.superstep.specs.Executing.{HoldsResult, rows_for}
use Rattle.superstep.specs.Opening.{IsAllFree}
use Rattle.superstep.specs.declared.faults.EmitFault.{EmitFault}
use Rattle.superstep.specs.declared.faults.EmitFault.TheVariants as fault
use Rattle.superstep.proofs.Ledgers.{all_sized, leased, leased_size}

-- ---- rows that are collected

module _ (fields : Fields) where
  pub collected_none : (t : Option Blocks) (lot : LotView) (tuples : Tuples) → IsLeftOf fields lot t tuples → Collects fields lot t [] tuples
  collected_none t lot tuples left = record { left = tuples; all = refl; behind = left }

  rows_left_of : (t : Option Blocks) (lot : LotView) (tuples : Tuples) → IsLeftOf fields lot t tuples → IsLeft lot t (map form tuples)
  rows_left_of None lot tuples left = left
  rows_left_of (Some m) lot tuples left = left.records

  fitting_of : (t : Option Blocks) (lot : LotView) (tuples : Tuples) → IsLeftOf fields lot t tuples → All (IsTupleOf fields) tuples
  fitting_of None lot tuples left = absurd left
  fitting_of (Some m) lot tuples left = left.fitting

  left_of_rows : (t : Option Blocks) (lot : LotView) (tuples : Tuples) → IsLeft lot t (map form tuples) → All (IsTupleOf fields) tuples → IsLeftOf fields lot t tuples
  left_of_rows None lot tuples left fit = left
  left_of_rows (Some m) lot tuples left fit = record { records = left; fitting = fit }

  -- What is left is known, where the disk tells.
  pub known_left : (t u : Option Blocks) (first lot : LotView) (rows : Tuples) → u ≡ t → IfTold t (λ _. (tuples : Tuples) × IsLeftOf fields first t tuples) → ((tuples : Tuples) → IsLeftOf fields first t tuples → Collects fields lot u rows tuples) → KnowsRows u (IsLeft lot u)
  known_left None u first lot rows same left collected = subst (λ o. KnowsRows o (IsLeft lot o)) (sym same) tt
  known_left (Some m) None first lot rows same left collected = tt
  known_left (Some m) (Some n) first lot rows same (tuples, left) collected =
      let c = collected tuples left in
      (map form c.left, rows_left_of (Some n) lot c.left c.behind)

  -- the row that is shown is the first of those that are left
  module _ (t u : Option Blocks) (lot now : LotView) (shown : Option (List ℕ)) (advances : (rs : List (List ℕ)) → IsLeft lot t rs → Advances rs true shown (IsLeft now u)) where
    pub collected_one : (rows new tuples : Tuples) → AddsShown fields shown rows new → Collects fields lot t rows tuples → Collects fields now u new tuples
    collected_one rows new tuples adds c = go c.left c.all c.behind (advances (map form c.left) (rows_left_of t lot c.left c.behind))
      where
        go : (left : Tuples) → tuples ≡ rows ++ left → IsLeftOf fields lot t left → Advances (map form left) true shown (IsLeft now u) → Collects fields now u new tuples
        go [] all behind adv = absurd adv
        go (x ∷ rest) all behind adv =
            let fit : All (IsTupleOf fields) (x ∷ rest) = fitting_of t lot (x ∷ rest) behind in
            let there : new ≡ rows ++ tuple_of fields (form x) ∷ [] = subst (λ s. AddsShown fields s rows new) adv.0 adds in
            let read : tuple_of fields (form x) ≡ x = reads_as_written fields x (form x) (record { tuple = All-head (IsTupleOf fields) x rest fit; formed = refl }) in record {
              left = rest;
              all = all ∙ sym (append_assoc rows (x ∷ []) rest) ∙ sym (ap (λ rs. rs ++ rest) (there ∙ ap (λ y. rows ++ y ∷ []) read));
              behind = left_of_rows u now rest adv.1 (All-tail (IsTupleOf fields) x rest fit);
            }

    -- and its record is one of the schema
    pub shown_is : (rows tuples : Tuples) → Collects fields lot t rows tuples → (bytes : List ℕ) × ((shown ≡ Some bytes) × IsRecord fields bytes)
    shown_is rows tuples c = go c.left c.behind (advances (map form c.left) (rows_left_of t lot c.left c.behind))
      where
        go : (left : Tuples) → IsLeftOf fields lot t left → Advances (map form left) true shown (IsLeft now u) → (bytes : List ℕ) × ((shown ≡ Some bytes) × IsRecord fields bytes)
        go [] behind adv = absurd adv
        go (x ∷ rest) behind adv =
            let fit : All (IsTupleOf fields) (x ∷ rest) = fitting_of t lot (x ∷ rest) behind in
            let tuple : IsTupleOf fields x = All-head (IsTupleOf fields) x rest fit in
            let read : tuple_of fields (form x) ≡ x = reads_as_written fields x (form x) (record { tuple = tuple; formed = refl }) in
            (form x, (adv.0, record { tuple = subst (IsTupleOf fields) (sym read) tuple; formed = ap form (sym read) }))

  -- A record that isn't one of the schema is shown only over a disk that doesn't tell.
  pub untold_damage : (t u v : Option Blocks) (first lot now : LotView) (rows : Tuples) (shown : Option (List ℕ)) → u ≡ t → IfTold t (λ _. (tuples : Tuples) × IsLeftOf fields first t tuples) → ((tuples : Tuples) → IsLeftOf fields first t tuples → Collects fields lot u rows tuples)
      → ((rs : List (List ℕ)) → IsLeft lot u rs → Advances rs true shown (IsLeft now v)) → ((bytes : List ℕ) → shown ≡ Some bytes → IsRecord fields bytes → ⊥) → t ≡ None
  untold_damage None u v first lot now rows shown same left collected advances wrong = refl
  untold_damage (Some m) u v first lot now rows shown same (tuples, left) collected advances wrong =
      let s = shown_is u v lot now shown advances rows tuples (collected tuples left) in
      absurd (wrong s.0 s.1.0 s.1.1)

  pub collected_all : (t u : Option Blocks) (lot now : LotView) (shown : Option (List ℕ)) (rows tuples : Tuples) → ((rs : List (List ℕ)) → IsLeft lot t rs → Advances rs false shown (IsLeft now u)) → Collects fields lot t rows tuples → rows ≡ tuples
  collected_all t u lot now shown rows tuples advances c = go c.left c.all (advances (map form c.left) (rows_left_of t lot c.left c.behind))
    where
      go : (left : Tuples) → tuples ≡ rows ++ left → Advances (map form left) false shown (IsLeft now u) → rows ≡ tuples
      go [] all adv = sym (all ∙ append-nil rows)
      go (x ∷ rest) all adv = absurd adv

-- ---- what reading keeps

pub reads_none : (t : Option Blocks) (p : PurseView) (lot : LotView) → Reads t t p p lot lot
reads_none t p lot = preserves_more (alone t p lot) (alone t p lot) [] [] (0 ∷ []) [] true true (λ i none. tt) (λ i none. tt) (λ is. is) (preserves_none (alone t p lot))

pub reads_join : (t u v : Option Blocks) (p q r : PurseView) (a b c : LotView) → Reads t u p q a b → Reads u v q r b c → Reads t v p r a c
reads_join t u v p q r a b c f g = preserves_join (alone t p a) (alone u q b) (alone v r c) (0 ∷ []) [] true f g

-- ---- causes

abbrev failed : {S E : Type 0} → E → Result S E
failed f = Err f

same_fault : {T E : Type 0} (f g : E) → ◌≡◌ {A = Result T E} (Err f) (Err g) → f ≡ g
same_fault f g e = cc

-- an error as one of another type
pub err_at : {S T E : Type 0} (answer : Result S E) (f g : E) → answer ≡ Err f → ◌≡◌ {A = Result T E} (Err f) (Err g) → answer ≡ Err g
err_at {S = S} {T = T} {E = E} answer f g is e = is ∙ ap (failed {S = S} {E = E}) (same_fault {T = T} {E = E} f g e)

pub stream_reading : {T S : Type 0} (before mid now : ℕ) (told : Option Blocks) (lot : LotView) (answer : Result S StreamFault) (f : StreamFault) → answer ≡ Err f → before ≤ mid → HasStreamCause mid now told answer
    → ((block : ℕ) → IsErrOf answer (stream_fault.Damaged block) → block ≡ lot.read_last) → HasReadingCause {T = T} before now told lot (Err (of_stream f))
stream_reading before mid now told lot answer stream_fault.Spill is grew cause last = record {
  later = omega (arith, grew, cause.later);
  spill = λ worker e.
      let same : ◌≡◌ {A = EmitFault} (fault.Spill 0) (fault.Spill worker) = cc in
      let one : 0 ≡ worker = cc in
      (sym one, omega (arith, grew, cause.spill is));
  damaged = λ worker block e. cc;
  write = λ e. cc;
}
stream_reading before mid now told lot answer (stream_fault.Damaged b) is grew cause last = record {
  later = omega (arith, grew, cause.later);
  spill = λ worker e. cc;
  damaged = λ worker block e.
      let same : ◌≡◌ {A = EmitFault} (fault.Damaged 0 b) (fault.Damaged worker block) = cc in
      let one : 0 ≡ worker = cc in
      let two : b ≡ block = cc in
      (sym one, sym two ∙ last b is, cause.damaged b is);
  write = λ e. cc;
}

pub pushed_reading : {T S : Type 0} (before now : ℕ) (told : Option Blocks) (lot : LotView) (answer : Result S EmitFault) (f : EmitFault) → answer ≡ Err f → before ≤ now
    → ((worker block : ℕ) → IsErrOf answer (fault.Damaged worker block) → (worker ≡ 0) × (block ≡ lot.read_last) × (told ≡ None)) → ((worker : ℕ) → IsErrOf answer (fault.Spill worker) → ⊥) → (IsErrOf answer fault.Write → ⊥)
    → HasReadingCause {T = T} before now told lot (Err f)
pushed_reading {T = T} {S = S} before now told lot answer f is later damaged spill write = record {
  later = later;
  spill = λ worker e. absurd (spill worker (err_at {S = S} {T = T} answer f (fault.Spill worker) is e));
  damaged = λ worker block e. damaged worker block (err_at {S = S} {T = T} answer f (fault.Damaged worker block) is e);
  write = λ e. write (err_at {S = S} {T = T} answer f fault.Write is e);
}

pub no_reading_cause : {T : Type 0} (before now : ℕ) (told : Option Blocks) (lot : LotView) (x : T) → before ≤ now → HasReadingCause before now told lot (Ok x)
no_reading_cause before now told lot x later = record { later = later; spill = λ worker e. cc; damaged = λ worker block e. cc; write = λ e. cc }

pub memory_reading : {T : Type 0} (before now : ℕ) (told : Option Blocks) (lot : LotView) → before ≤ now → HasReadingCause {T = T} before now told lot (Err fault.Memory)
memory_reading before now told lot later = record { later = later; spill = λ worker e. cc; damaged = λ worker block e. cc; write = λ e. cc }

-- The lot came to rest afterwards, and knows still what it read last.
pub rested_reading : {T : Type 0} (before mid now : ℕ) (told : Option Blocks) (lot rested : LotView) (answer : Result T EmitFault) → mid ≤ now → rested.read_last ≡ lot.read_last → HasReadingCause before mid told lot answer → HasReadingCause before now told rested answer
rested_reading before mid now told lot rested answer grew same cause = record {
  later = omega (arith, cause.later, grew);
  spill = λ worker e. ((cause.spill worker e).0, omega (arith, (cause.spill worker e).1, grew));
  damaged = λ worker block e. ((cause.damaged worker block e).0, (cause.damaged worker block e).1 ∙ sym same, (cause.damaged worker block e).2);
  write = cause.write;
}

pub write_reading : {T S : Type 0} (before mid now : ℕ) (told : Option Blocks) (lot : LotView) (answer : Result S StreamFault) (f : StreamFault) → answer ≡ Err f → before ≤ mid → HasWriteCause mid now answer → HasReadingCause {T = T} before now told lot (Err (of_stream f))
write_reading before mid now told lot answer stream_fault.Spill is grew cause = record {
  later = omega (arith, grew, cause.later);
  spill = λ worker e.
      let same : ◌≡◌ {A = EmitFault} (fault.Spill 0) (fault.Spill worker) = cc in
      let one : 0 ≡ worker = cc in
      (sym one, omega (arith, grew, cause.spill is));
  damaged = λ worker block e. cc;
  write = λ e. cc;
}
write_reading before mid now told lot answer (stream_fault.Damaged b) is grew cause = absurd (cause.damaged b is)

-- ---- a lot that is read with leased segments

-- it holds no more than was lent to it, where it held nothing
pub held_lent : (a b : LotView) → held a ≡ [] → a.stored.room ≡ 0 → pages_of b ≡ pages_of a → b.stored.room ≡ a.stored.room → length (held b) ≤ b.stored.room + length (lent b.feed)
held_lent a b none room same rooms = go (pages_of a) (pages_of b) (lent a.feed) (lent b.feed) none same
  where
    no_front : (xs ys : List SegmentView) → xs ++ ys ≡ [] → xs ≡ []
    no_front [] ys e = refl
    no_front (x ∷ xs) ys e = cc

    go : (p q : PagesView) (l k : List SegmentView) → (p.kept ++ p.open_page) ++ l ≡ [] → q ≡ p → length ((q.kept ++ q.open_page) ++ k) ≤ b.stored.room + length k
    go p q l k e is =
        let front : p.kept ++ p.open_page ≡ [] = no_front (p.kept ++ p.open_page) l e in
        let now : q.kept ++ q.open_page ≡ [] = ap (λ (x : PagesView). x.kept ++ x.open_page) is ∙ front in
        omega (arith, ap (λ xs. length (xs ++ k)) now)

pub none_held : (lot : LotView) (room : ℕ) → length (held lot) ≤ lot.stored.room → lot.stored.room ≡ room → room ≡ 0 → held lot ≡ []
none_held lot room low is zero_room = go (held lot) (omega (arith, low, is, zero_room))
  where
    go : (xs : List SegmentView) → length xs ≤ 0 → xs ≡ []
    go [] h = refl
    go (x ∷ xs) h = absurd (omega (arith, h))

-- the tuples that are left once it was rewound, where it holds some
pub left_first : (fields : Fields) (t u : Option Blocks) (a b : LotView) → u ≡ t → IfTold t (HoldsSome fields a) → IfTold t (λ blocks. (rows : List (List ℕ)) → HoldsRows blocks a rows → HasLeft blocks b.feed rows) → IfTold u (λ _. (tuples : Tuples) × IsLeftOf fields b u tuples)
left_first fields None u a b same holds left = subst (λ o. IfTold o (λ _. (tuples : Tuples) × IsLeftOf fields b o tuples)) (sym same) tt
left_first fields (Some m) u a b same (tuples, holds) left =
    subst (λ o. IfTold o (λ _. (tuples : Tuples) × IsLeftOf fields b o tuples)) (sym same) (tuples, record { records = left (map form tuples) holds.records; fitting = holds.fitting })

-- what was read is what it held
pub rows_of_it : {V E : Type 0} (items : V → Tuples) (fields : Fields) (t u : Option Blocks) (a b : LotView) (answer : Result V E) → u ≡ t → IfTold t (HoldsSome fields a) → IfTold t (λ blocks. (rows : List (List ℕ)) → HoldsRows blocks a rows → HasLeft blocks b.feed rows)
    → IfOk answer (λ rows. (tuples : Tuples) → IsLeftOf fields b u tuples → items rows ≡ tuples) → IfOk answer (λ rows. IfTold t (λ _. items rows ≡ tuples_in fields t a))
rows_of_it items fields t u a b (Err e) same holds left read = tt
rows_of_it items fields None u a b (Ok rows) same holds left read = tt
rows_of_it items fields (Some m) u a b (Ok rows) same (tuples, holds) left read =
    read tuples (subst (λ o. IsLeftOf fields b o tuples) (sym same) (record { records = left (map form tuples) holds.records; fitting = holds.fitting }))
    ∙ sym (rows_are fields m a tuples holds)

module _ (plan : Plan) (t : Option Blocks) (a : LotView) (pool mid : PoolView) (purse : PurseView) (lies : LiesAlone plan t a) (free : IsAllFree pool) (size : pool.size ≡ plan.segment)
    (total_mid : mid.total ≡ pool.total) (size_mid : mid.size ≡ pool.size) (leases : Leases pool mid purse) where
  purse_sized : count_other_size plan.segment purse.pages ≡ 0
  purse_sized = subst (λ n. count_other_size n purse.pages ≡ 0) size (leased_size pool mid purse leases (all_sized pool free))

  held_none : length (held a) ≡ 0
  held_none = ap (λ (xs : List SegmentView). length xs) lies.bare.none

  with_purse : (m : Blocks) → Stand plan.segment [] (a ∷ []) m → Stand plan.segment purse.pages (a ∷ []) m
  with_purse m s = record { sized = omega (arith, s.sized, purse_sized); each = s.each; apart = s.apart }

  pub ready_lent : length purse.pages ≤ purse.room → IsReadyAt plan.segment (alone t purse a)
  ready_lent fits = record { room = omega (arith, fits, held_none, sum_by-cons (λ (l : LotView). length (held l)) a []); stand = go t lies.stands }
    where
      go : (o : Option Blocks) → IfTold o (Stand plan.segment [] (a ∷ [])) → IfTold o (Stand plan.segment purse.pages (a ∷ []))
      go None s = tt
      go (Some m) s = with_purse m s

  module _ (u : Option Blocks) (b : LotView) (rest : PurseView) (none : held b ≡ []) (reads : Reads t u purse rest a b) where
    same_weight : (h : ℕ → ℕ → ℕ) → segment_sum h rest.pages ≡ segment_sum h purse.pages
    same_weight h =
        omega (arith, reads.segments h, sum_by-cons (λ (l : LotView). segment_sum h (held l)) a [], sum_by-cons (λ (l : LotView). segment_sum h (held l)) b [], ap (segment_sum h) none, ap (segment_sum h) lies.bare.none)

    pub given_back : IsLedger mid.total mid.size (mid.free ∷ rest.pages ∷ [])
    given_back =
        IsLedger-segment_sum_all mid.total mid.size (mid.free ∷ purse.pages ∷ []) (mid.free ∷ rest.pages ∷ [])
        (λ h. omega (arith, same_weight h, sum_by-cons (segment_sum h) mid.free (purse.pages ∷ []), sum_by-cons (segment_sum h) mid.free (rest.pages ∷ []), sum_by-cons (segment_sum h) purse.pages [], sum_by-cons (segment_sum h) rest.pages []))
        (leased pool mid purse total_mid size_mid leases free)

    pub lies_still : LiesAlone plan u b
    lies_still = record {
      bare = record { none = none; room = reads.rooms 0 b ∙ lies.bare.room; reach = reads.reach 0 b ∙ lies.bare.reach };
      stands = go t u lies.stands reads.told;
    }
      where
        go : (o v : Option Blocks) → IfTold o (Stand plan.segment [] (a ∷ [])) → BothTold o v (StaysStanding (alone t purse a) (alone u rest b) [] true) → IfTold v (Stand plan.segment [] (b ∷ []))
        go None None s stays = tt
        go None (Some n) s stays = absurd stays
        go (Some m) None s stays = tt
        go (Some m) (Some n) s stays =
            let now : Stand plan.segment rest.pages (b ∷ []) n = stays.stand plan.segment (with_purse m s) in
            record { sized = omega (arith, now.sized); each = now.each; apart = now.apart }

    pub stays_held : length purse.pages ≤ purse.room → (fields : Fields) → IfTold t (HoldsSome fields a) → IfTold u (HoldsSome fields b) × (tuples_in fields u b ≡ tuples_in fields t a)
    stays_held fits fields holds = stays plan.segment purse rest (a ∷ []) (b ∷ []) (0 ∷ []) [] 0 a (omega arith) tt fields t u reads (ready_lent fits) holds

pub keeps_place : {D : Type 0} (told : D → Option Blocks) (faults : D → ℕ) (plan : Plan) (node : Node) (d e : D) (a b : LotView) (pool now : PoolView) → node_at plan.nodes plan.result ≡ Some node → told e ≡ told d → faults d ≤ faults e → LiesAlone plan (told e) b → HoldsResult plan (told d) a
    → (IfTold (told d) (HoldsSome node.schema a) → IfTold (told e) (HoldsSome node.schema b) × (tuples_in node.schema (told e) b ≡ tuples_in node.schema (told d) a))
    → now.total ≡ pool.total → now.size ≡ pool.size → IsAllFree now → KeepsPlace told faults plan d e a b pool now
keeps_place told faults plan node d e a b pool now found same later lies holds still total size free = record {
  alone = lies;
  holds = λ x there.
      let one : node ≡ x = let both : Some node ≡ Some x = sym found ∙ there in cc in
      subst (λ (y : Node). IfTold (told e) (HoldsSome y.schema b)) one (still (holds node found)).0;
  same = ap (λ o. rows_for (told e) o b) found ∙ (still (holds node found)).1 ∙ sym (ap (λ o. rows_for (told d) o a) found);
  disk = record { later = later; tells = ap is_some same };
  total = total;
  size = size;
  free = free;
}

-- a lot that was emptied gave its segments to the purse
pub dropped_sum : (h : ℕ → ℕ → ℕ) (t u : Option Blocks) (p q : PurseView) (a b : LotView) (tidy : Bool) → held b ≡ [] → Preserves (alone t p a) (alone u q b) (0 ∷ []) (0 ∷ []) tidy → segment_sum h q.pages ≡ segment_sum h p.pages + segment_sum h (held a)
dropped_sum h t u p q a b tidy none keeps =
    omega (arith, keeps.segments h, sum_by-cons (λ (l : LotView). segment_sum h (held l)) a [], sum_by-cons (λ (l : LotView). segment_sum h (held l)) b [], ap (segment_sum h) none)
