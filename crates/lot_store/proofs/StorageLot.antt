-- What a call over one lot preserves, from what is told by that lot alone.
use Rattle.std.proofs.Common.{Result, Ok, Err, OnOk, ◌≡◌, inl, inr, ℕ, zero, suc, ◌+◌, ◌≤◌, true, false, List, [], ◌∷◌, ◌++◌, length, Option, Some, None, refl, sym, ap, ◌∙◌, subst, arith, is_ok}
use Rattle.std.proofs.lemmas.Bool.{cases_lt, false≢true}
use Rattle.std.proofs.lemmas.List.Elements.{All-cons, All-nil}
use Rattle.std.proofs.lemmas.List.Sums.{sum_by-cons}
use Rattle.segment_core.specs.Segments.{PurseView, SegmentView, count_other_size, segment_sum}
use Rattle.flow_outside.specs.Blocks.{Blocks, BothTold}
use Rattle.flow_outside.specs.Told.{IfTold}
use Rattle.flow_types.specs.Records.{framed}
use Rattle.page_feed.specs.Feeds.{stopped}
use Rattle.paged_view.specs.Pages.{used_bytes}
use Rattle.lot_store.specs.LotCalls.{AppendsPage, AppendsRow, KeepsContents, Reads, Writes}
use Rattle.lot_store.specs.LotKeeping.{AddsFullPages, AddsRow, AddsText, Keeps, KeepsOthers, KeepsRows, MovesSegments, PutsPage}
use Rattle.lot_store.specs.Lots.{IsSound, LotView, StandsWith, empty, held, pages_of}
use Rattle.spool.specs.Spilling.{FreesBlocks, IsFreeOrOwn, OwnsBlock}
use Rattle.lot_store.specs.Stores.{PagesView, held as held_stored}
use Rattle.lot_store.specs.Storage.{IsFreeOrOwned, IsNoneOf, IsReady, Preserves, Stand, StandsAt, StaysStanding, alone, held_sum, lot_at, owners, times_in}
use Rattle.spool.proofs.SpillLemmas.{told_both}
use Rattle.lot_store.proofs.RestLemmas.{stored_same}
use Rattle.lot_store.proofs.Telling.{told_map, told_turn}
use Rattle.lot_store.proofs.StorageBlocks.{counts_once, counts_own, owns_counted, times_of}

one_owner : (m : Blocks) (block : ℕ) (lot : LotView) → owners m block (lot ∷ []) ≡ times_of m block lot.stored.run
one_owner m block lot = omega (arith, sum_by-cons (times_in m block) lot [])

-- One lot that stands beside its purse, as a list of one.
pub stand_one : (size : ℕ) (p : List SegmentView) (lot : LotView) (m : Blocks) → StandsWith size lot p m → Stand size p (lot ∷ []) m
stand_one size p lot m s = record {
  sized = omega (arith, s.own, s.others, sum_by-cons (λ (l : LotView). count_other_size size (held l)) lot []);
  each = All-cons (StandsAt size m) lot [] (record { spilled = s.spilled; reads = s.reads }) (All-nil (StandsAt size m));
  apart = λ block. omega (arith, one_owner m block lot, counts_once m size block lot.stored.run s.spilled);
}

pub one_stands : (size : ℕ) (p : List SegmentView) (lot : LotView) (m : Blocks) → Stand size p (lot ∷ []) m → StandsWith size lot p m
one_stands size p lot m s =
    let at : StandsAt size m lot = s.each 0 lot (omega arith) in record {
      own = omega (arith, s.sized, sum_by-cons (λ (l : LotView). count_other_size size (held l)) lot []);
      others = omega (arith, s.sized);
      spilled = at.spilled;
      reads = at.reads;
    }

-- A call may work on one lot.
pub room_one : (t : Option Blocks) (p : PurseView) (lot : LotView) → IsReady (alone t p lot) → length p.pages + length (held lot) ≤ p.room
room_one t p lot ready = omega (arith, ready.room, sum_by-cons (λ (l : LotView). length (held l)) lot [])

pub sound_one : (t : Option Blocks) (p : PurseView) (lot : LotView) → IsReady (alone t p lot) → IsSound t lot p.pages
sound_one None p lot ready = tt
sound_one (Some m) p lot ready = (ready.stand.0, one_stands ready.stand.0 p.pages lot m ready.stand.1)

not_owned : (m : Blocks) (block : ℕ) (lot : LotView) → owners m block (lot ∷ []) ≡ 0 → OwnsBlock m lot.stored.run block → ⊥
not_owned m block lot none own = omega (arith, one_owner m block lot, none, counts_own m block lot.stored.run own)

none_owned : (m : Blocks) (block : ℕ) (lot : LotView) → (OwnsBlock m lot.stored.run block → ⊥) → owners m block (lot ∷ []) ≡ 0
none_owned m block lot none = elim (cases_lt 0 (times_of m block lot.stored.run)) [
  | inl some ↦ absurd (none (owns_counted m block lot.stored.run some))
  | inr nothing ↦ omega (arith, nothing, one_owner m block lot)
]

free_in : (m : Blocks) (block : ℕ) (lot : LotView) → IsFreeOrOwned m (lot ∷ []) block → IsFreeOrOwn m lot.stored.run block
free_in m block lot (inl free) = inl free
free_in m block lot (inr owned) = inr (owns_counted m block lot.stored.run (omega (arith, owned, one_owner m block lot)))

free_out : (m : Blocks) (block : ℕ) (lot : LotView) → IsFreeOrOwn m lot.stored.run block → IsFreeOrOwned m (lot ∷ []) block
free_out m block lot (inl free) = inl free
free_out m block lot (inr own) = inr (omega (arith, one_owner m block lot, counts_own m block lot.stored.run own))

-- what is so of the one lot, and of none, is so at each place
one_place : (P : LotView → LotView → Type 0) (a b : LotView) → P a b → ((lot : LotView) → P lot lot) → (i : ℕ) (d : LotView) → P (lot_at (a ∷ []) i d) (lot_at (b ∷ []) i d)
one_place P a b here there zero d = here
one_place P a b here there (suc i) d = there d

one_sum : (h : ℕ → ℕ → ℕ) (lot : LotView) → held_sum h (lot ∷ []) ≡ segment_sum h (held lot)
one_sum h lot = omega (arith, sum_by-cons (λ (l : LotView). segment_sum h (held l)) lot [])

-- The lot was written.
stays_written : (t u : Option Blocks) (a b : LotView) (p q : PurseView) (m n : Blocks) → Keeps a b p.pages q.pages m n → StaysStanding (alone t p a) (alone u q b) (0 ∷ []) true m n
stays_written t u a b p q m n keeps = record {
  stand = λ size s. stand_one size q.pages b n (keeps.stands size (one_stands size p.pages a m s));
  spares = λ size s. record {
    own = λ i d low none block owned. absurd (none.0 (omega (arith, low)));
    others = λ block live nobody.
        let other = keeps.others block live (not_owned m block a nobody) in (other.0, none_owned n block b other.1);
    fresh = λ tidy block is. free_out n block b (keeps.owns block (free_in m block a is));
  };
}

not_first : (i : ℕ) → IsNoneOf i (0 ∷ []) → (j : ℕ) × (i ≡ suc j)
not_first zero none = absurd (none.0 refl)
not_first (suc j) none = (j, refl)

pub writes_one : (t u : Option Blocks) (a b : LotView) (p q : PurseView) → BothTold t u (Keeps a b p.pages q.pages) → MovesSegments a b p.pages q.pages → q.room ≡ p.room
    → b.stored.room ≡ a.stored.room → b.feed.reach ≡ a.feed.reach → Writes t u p q a b
writes_one t u a b p q keeps moves room own reach = record {
  count = refl;
  rooms = one_place (λ x y. y.stored.room ≡ x.stored.room) a b own (λ lot. refl);
  reach = one_place (λ x y. y.feed.reach ≡ x.feed.reach) a b reach (λ lot. refl);
  same = λ i d none. let j = not_first i none in subst (λ k. lot_at (b ∷ []) k d ≡ lot_at (a ∷ []) k d) (sym j.1) refl;
  pages = λ i d none. let j = not_first i none in subst (λ k. pages_of (lot_at (b ∷ []) k d) ≡ pages_of (lot_at (a ∷ []) k d)) (sym j.1) refl;
  segments = λ h. omega (arith, moves h, one_sum h a, one_sum h b);
  purse_room = room;
  told = told_map t u (Keeps a b p.pages q.pages) (StaysStanding (alone t p a) (alone u q b) (0 ∷ []) true) (stays_written t u a b p q) keeps;
}

-- The lot was read: it has its pages, and no block changed.
stays_read : (t u : Option Blocks) (a b : LotView) (p q : PurseView) (m : Blocks) → ((size : ℕ) → StandsWith size a p.pages m → StandsWith size b q.pages m) → b.stored.run ≡ a.stored.run → StaysStanding (alone t p a) (alone u q b) [] true m m
stays_read t u a b p q m stands run = record {
  stand = λ size s. stand_one size q.pages b m (stands size (one_stands size p.pages a m s));
  spares = λ size s. record {
    own = λ i d low none block owned. refl;
    others = λ block live nobody. (refl, none_owned m block b (λ own. not_owned m block a nobody (subst (λ r. OwnsBlock m r block) run own)));
    fresh = λ tidy block is. free_out m block b (subst (λ r. IsFreeOrOwn m r block) (sym run) (free_in m block a is));
  };
}

pub reads_one : (t u : Option Blocks) (a b : LotView) (p q : PurseView) → u ≡ t → BothTold t u (λ m n. (size : ℕ) → StandsWith size a p.pages m → StandsWith size b q.pages n) → pages_of b ≡ pages_of a
    → MovesSegments a b p.pages q.pages → q.room ≡ p.room → b.feed.reach ≡ a.feed.reach → Reads t u p q a b
reads_one t u a b p q same stands pages moves room reach =
    let run : b.stored.run ≡ a.stored.run = ap (λ (s : PagesView). s.run) pages in record {
      count = refl;
      rooms = one_place (λ x y. y.stored.room ≡ x.stored.room) a b (ap (λ (s : PagesView). s.room) pages) (λ lot. refl);
      reach = one_place (λ x y. y.feed.reach ≡ x.feed.reach) a b reach (λ lot. refl);
      same = λ i d none. let j = not_first i none in subst (λ k. lot_at (b ∷ []) k d ≡ lot_at (a ∷ []) k d) (sym j.1) refl;
      pages = λ i d none. one_place (λ x y. pages_of y ≡ pages_of x) a b pages (λ lot. refl) i d;
      segments = λ h. omega (arith, moves h, one_sum h a, one_sum h b);
      purse_room = room;
      told = told_turn t u same (λ m n. (size : ℕ) → StandsWith size a p.pages m → StandsWith size b q.pages n) (StaysStanding (alone t p a) (alone u q b) [] true) (λ m s. stays_read t u a b p q m s run) stands;
    }

-- The same of a call that says what it keeps as one that writes does.
pub reads_kept : (t u : Option Blocks) (a b : LotView) (p q : PurseView) → u ≡ t → BothTold t u (Keeps a b p.pages q.pages) → pages_of b ≡ pages_of a → MovesSegments a b p.pages q.pages → q.room ≡ p.room → b.feed.reach ≡ a.feed.reach → Reads t u p q a b
reads_kept t u a b p q same keeps =
    reads_one t u a b p q same (told_map t u (Keeps a b p.pages q.pages) (λ m n. (size : ℕ) → StandsWith size a p.pages m → StandsWith size b q.pages n) (λ m n k. k.stands) keeps)

-- The lot was emptied.
stays_dropped : {T E : Type 0} (answer : Result T E) (t u : Option Blocks) (a b : LotView) (p q : PurseView) (m n : Blocks) → b.stored.run ≡ None → KeepsOthers a b p.pages q.pages m n → OnOk answer (FreesBlocks a.stored.run m n)
    → StaysStanding (alone t p a) (alone u q b) (0 ∷ []) (is_ok answer) m n
stays_dropped {T} {E} answer t u a b p q m n none keeps freed = record {
  stand = λ size s. stand_one size q.pages b n (keeps.stands size (one_stands size p.pages a m s));
  spares = λ size s. record {
    own = λ i d low none block owned. absurd (none.0 (omega (arith, low)));
    others = λ block live nobody.
        let other = keeps.others block live (not_owned m block a nobody) in (other.0, none_owned n block b other.1);
    fresh = λ tidy block is. fresh answer freed tidy block (free_in m block a is);
  };
}
  where
    fresh : (o : Result T E) → OnOk o (FreesBlocks a.stored.run m n) → is_ok o ≡ true → (block : ℕ) → IsFreeOrOwn m a.stored.run block → IsFreeOrOwned n (b ∷ []) block
    fresh (Err fault) freed tidy block is = absurd (false≢true tidy)
    fresh (Ok value) freed tidy block (inl free) = free_out n block b (keeps.fresh block free)
    fresh (Ok value) freed tidy block (inr own) = inl (freed block own)

told_dropped : {T E : Type 0} (answer : Result T E) (t u : Option Blocks) (a b : LotView) (p q : PurseView) → b.stored.run ≡ None → BothTold t u (KeepsOthers a b p.pages q.pages) → OnOk answer (BothTold t u (FreesBlocks a.stored.run))
    → BothTold t u (StaysStanding (alone t p a) (alone u q b) (0 ∷ []) (is_ok answer))
told_dropped {T} {E} (Ok value) t u a b p q none keeps freed =
    told_map t u (λ m n. KeepsOthers a b p.pages q.pages m n × FreesBlocks a.stored.run m n) (StaysStanding (alone t p a) (alone u q b) (0 ∷ []) true)
    (λ m n k. stays_dropped {T = T} {E = E} (Ok value) t u a b p q m n none k.0 k.1) (told_both t u (KeepsOthers a b p.pages q.pages) (FreesBlocks a.stored.run) keeps freed)
told_dropped {T} {E} (Err fault) t u a b p q none keeps freed =
    told_map t u (KeepsOthers a b p.pages q.pages) (StaysStanding (alone t p a) (alone u q b) (0 ∷ []) false) (λ m n k. stays_dropped {T = T} {E = E} (Err fault) t u a b p q m n none k tt) keeps

pub drops_one : {T E : Type 0} (answer : Result T E) (t u : Option Blocks) (a b : LotView) (p q : PurseView) → b.stored.run ≡ None → BothTold t u (KeepsOthers a b p.pages q.pages) → OnOk answer (BothTold t u (FreesBlocks a.stored.run))
    → MovesSegments a b p.pages q.pages → q.room ≡ p.room → b.stored.room ≡ a.stored.room → b.feed.reach ≡ a.feed.reach → Preserves (alone t p a) (alone u q b) (0 ∷ []) (0 ∷ []) (is_ok answer)
drops_one answer t u a b p q none keeps freed moves room own reach = record {
  count = refl;
  rooms = one_place (λ x y. y.stored.room ≡ x.stored.room) a b own (λ lot. refl);
  reach = one_place (λ x y. y.feed.reach ≡ x.feed.reach) a b reach (λ lot. refl);
  same = λ i d far. let j = not_first i far in subst (λ k. lot_at (b ∷ []) k d ≡ lot_at (a ∷ []) k d) (sym j.1) refl;
  pages = λ i d far. let j = not_first i far in subst (λ k. pages_of (lot_at (b ∷ []) k d) ≡ pages_of (lot_at (a ∷ []) k d)) (sym j.1) refl;
  segments = λ h. omega (arith, moves h, one_sum h a, one_sum h b);
  purse_room = room;
  told = told_dropped answer t u a b p q none keeps freed;
}

-- What was added, of a call that ended well.
pub row_appended : {E : Type 0} (answer : Result Unit E) (t u : Option Blocks) (a b : LotView) (p : List SegmentView) (row : List ℕ) → OnOk answer (BothTold t u (AddsText a b (framed row)))
    → OnOk answer (BothTold t u (AddsFullPages a b p)) → OnOk answer (BothTold t u (AddsRow a b p row)) → OnOk answer (BothTold t u (AppendsRow a b p row))
row_appended (Err fault) t u a b p row bytes full rows = tt
row_appended (Ok value) t u a b p row bytes full rows =
    told_map t u (λ m n. AddsText a b (framed row) m n × (AddsFullPages a b p m n × AddsRow a b p row m n)) (AppendsRow a b p row) (λ m n k. record { bytes = k.0; full = k.1.0; rows = k.1.1 })
    (told_both t u (AddsText a b (framed row)) (λ m n. AddsFullPages a b p m n × AddsRow a b p row m n) bytes (told_both t u (AddsFullPages a b p) (AddsRow a b p row) full rows))

pub page_appended : {E : Type 0} (answer : Result Unit E) (t u : Option Blocks) (page : SegmentView) (a b : LotView) → OnOk answer (BothTold t u (AddsText a b (used_bytes page)))
    → OnOk answer (BothTold t u (PutsPage page a b)) → OnOk answer (BothTold t u (AppendsPage page a b))
page_appended (Err fault) t u page a b bytes pages = tt
page_appended (Ok value) t u page a b bytes pages =
    told_map t u (λ m n. AddsText a b (used_bytes page) m n × PutsPage page a b m n) (AppendsPage page a b) (λ m n k. record { bytes = k.0; pages = k.1 })
    (told_both t u (AddsText a b (used_bytes page)) (PutsPage page a b) bytes pages)

pub contents_kept : {E : Type 0} (answer : Result Unit E) (t u : Option Blocks) (a b : LotView) → OnOk answer (BothTold t u (AddsText a b [])) → OnOk answer (BothTold t u (KeepsRows a b)) → OnOk answer (BothTold t u (KeepsContents a b))
contents_kept (Err fault) t u a b bytes rows = tt
contents_kept (Ok value) t u a b bytes rows =
    told_map t u (λ m n. AddsText a b [] m n × KeepsRows a b m n) (KeepsContents a b) (λ m n k. record { bytes = k.0; rows = k.1 }) (told_both t u (AddsText a b []) (KeepsRows a b) bytes rows)

-- A lot that holds nothing and has no run is the empty lot.
pub lot_emptied : (b : LotView) (room reach r : ℕ) → held_stored b.stored ≡ [] → b.stored.run ≡ None → b.stored.room ≡ room → b.feed ≡ stopped r reach → r ≡ room → b.read_last ≡ 0 → b ≡ empty room reach
lot_emptied b room reach r none run own feed seat forgot =
    let pages : b.stored ≡ record { room = room; kept = []; run = None; open_page = [] } =
    stored_same b.stored.room room b.stored.kept [] b.stored.run None b.stored.open_page [] own (front_none b.stored.kept b.stored.open_page none) run (back_none b.stored.kept b.stored.open_page none) in
    let rests : b.feed ≡ stopped room reach = feed ∙ ap (λ k. stopped k reach) seat in
    ap (λ s. record { stored = s; feed = b.feed; read_last = b.read_last }) pages
    ∙ ap (λ f. record { stored = record { room = room; kept = []; run = None; open_page = [] }; feed = f; read_last = b.read_last }) rests
    ∙ ap (λ k. record { stored = record { room = room; kept = []; run = None; open_page = [] }; feed = stopped room reach; read_last = k }) forgot
  where
    front_none : (xs ys : List SegmentView) → xs ++ ys ≡ [] → xs ≡ []
    front_none [] ys none = refl
    front_none (x ∷ xs) ys none = cc

    back_none : (xs ys : List SegmentView) → xs ++ ys ≡ [] → ys ≡ []
    back_none [] ys none = none
    back_none (x ∷ xs) ys none = cc

-- The lot was advanced.
told_advanced : (t u : Option Blocks) (a b : LotView) (p : List SegmentView) → u ≡ t → IfTold t (λ m. (size : ℕ) (purse : List SegmentView) → StandsWith size a purse m → StandsWith size b purse m)
    → BothTold t u (λ m n. (size : ℕ) → StandsWith size a p m → StandsWith size b p n)
told_advanced t u a b p same stands =
    subst (λ o. BothTold t o (λ m n. (size : ℕ) → StandsWith size a p m → StandsWith size b p n)) (sym same) (at_one t stands)
  where
    at_one : (o : Option Blocks) → IfTold o (λ m. (size : ℕ) (purse : List SegmentView) → StandsWith size a purse m → StandsWith size b purse m) → BothTold o o (λ m n. (size : ℕ) → StandsWith size a p m → StandsWith size b p n)
    at_one None h = tt
    at_one (Some m) h = λ size s. h size p s

pub reads_advanced : (t u : Option Blocks) (a b : LotView) (p : PurseView) → u ≡ t → IfTold t (λ m. (size : ℕ) (purse : List SegmentView) → StandsWith size a purse m → StandsWith size b purse m) → pages_of b ≡ pages_of a
    → ((h : ℕ → ℕ → ℕ) → segment_sum h (held b) ≡ segment_sum h (held a)) → b.feed.reach ≡ a.feed.reach → Reads t u p p a b
reads_advanced t u a b p same stands pages moves reach =
    reads_one t u a b p p same (told_advanced t u a b p.pages same stands) pages (λ h. omega (arith, moves h)) refl reach

-- what a lot holds, where the purse is as it was
pub same_held : (t u : Option Blocks) (a b : LotView) → ((p : PurseView) → Reads t u p p a b) → (h : ℕ → ℕ → ℕ) → segment_sum h (held b) ≡ segment_sum h (held a)
same_held t u a b reads h = omega (arith, (reads (record { room = 0; pages = [] })).segments h, one_sum h a, one_sum h b)
