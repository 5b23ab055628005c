-- What the tests know of a lot, from call to call.
use Rattle.std.proofs.Common.{◌≡◌, ℕ, ◌+◌, ◌-◌, ◌/◌, ◌^◌, ◌<◌, ◌≤◌, Bool, true, List, [], ◌∷◌, ◌++◌, length, Result, Ok, Err, OnOk, Option, Some, None, refl, sym, ap, ◌∙◌, subst, arith}
use Rattle.std.proofs.lemmas.List.Elements.{All-nil}
use Rattle.std.proofs.lemmas.List.Sums.{sum_by-cons}
use Rattle.segment_core.specs.Segments.{PurseView, SegmentView, count_other_size, segment_sum}
use Rattle.segment_core.proofs.Weighing.{segment_sum-cons, segment_sum-push}
use Rattle.flow_outside.specs.Blocks.{Blocks, BothTold}
use Rattle.flow_outside.specs.Told.{IfTold}
use Rattle.paged_view.specs.Pages.{IsSameSegment}
use Rattle.paged_view.specs.Streams.{Advances, KnowsRows}
use Rattle.page_feed.specs.Feeds.{HasLeft}
use Rattle.lot_store.specs.LotCalls.{AppendsRow, IsSupplied, KeepsContents, Reads, Writes}
use Rattle.lot_store.specs.LotKeeping.{Keeps, MovesSegments}
use Rattle.lot_store.specs.Lots.{HoldsRows, IsLeft, IsRewound, LotView, empty, held}
use Rattle.lot_store.specs.Storage.{IsReady, Preserves, Stand, StaysStanding, alone, held_sum, with_segment}
use Rattle.lot_store.proofs.StorageLaws.{counts_after, preserves_join, preserves_more, preserves_none, ready_at_after, ready_of_at, rows_kept_on}
use Rattle.lot_store.proofs.StorageLot.{one_stands, stand_one, writes_one}
use Rattle.worked_lots.specs.Worked.{CanAdd, CanRead, CanRewind, Holds, ReadsOn, Stands}

-- A call may work on the lot that the one before left.
pub stands_on : (t u : Option Blocks) (a b : LotView) (p q : PurseView) (ws : List ℕ) → Preserves (alone t p a) (alone u q b) (0 ∷ []) ws true → Stands t a p → Stands u b q
stands_on t u a b p q ws keeps stands =
    ready_at_after 4096 (alone t p a) (alone u q b) (0 ∷ []) ws true keeps stands

pub ready_of : (t : Option Blocks) (a : LotView) (p : PurseView) → Stands t a p → IsReady (alone t p a)
ready_of t a p stands = ready_of_at 4096 (alone t p a) stands

-- As many segments as before.
pub count_same : (t u : Option Blocks) (a b : LotView) (p q : PurseView) (ws : List ℕ) → Preserves (alone t p a) (alone u q b) (0 ∷ []) ws true → length q.pages + length (held b) ≡ length p.pages + length (held a)
count_same t u a b p q ws keeps =
    omega (arith, counts_after (alone t p a) (alone u q b) (0 ∷ []) ws true keeps, sum_by-cons (λ (l : LotView). length (held l)) a [], sum_by-cons (λ (l : LotView). length (held l)) b [])

-- One call after another.
pub writes_join : (t u v : Option Blocks) (a b c : LotView) (p q r : PurseView) → Writes t u p q a b → Writes u v q r b c → Writes t v p r a c
writes_join t u v a b c p q r f g =
    preserves_join (alone t p a) (alone u q b) (alone v r c) (0 ∷ []) (0 ∷ []) true f g

pub reads_join : (t u v : Option Blocks) (a b c : LotView) (p q r : PurseView) → Reads t u p q a b → Reads u v q r b c → Reads t v p r a c
reads_join t u v a b c p q r f g =
    preserves_join (alone t p a) (alone u q b) (alone v r c) (0 ∷ []) [] true f g

pub writes_of : (t u : Option Blocks) (a b : LotView) (p q : PurseView) → Reads t u p q a b → Writes t u p q a b
writes_of t u a b p q reads =
    preserves_more (alone t p a) (alone u q b) (0 ∷ []) [] (0 ∷ []) (0 ∷ []) true true (λ i none. none) (λ i none. tt) (λ is. is) reads

pub reads_nothing : (t : Option Blocks) (a : LotView) (p : PurseView) → Reads t t p p a a
reads_nothing t a p =
    preserves_more (alone t p a) (alone t p a) [] [] (0 ∷ []) [] true true (λ i none. tt) (λ i none. none) (λ is. is) (preserves_none (alone t p a))

pub writes_nothing : (t : Option Blocks) (a : LotView) (p : PurseView) → Writes t t p p a a
writes_nothing t a p = writes_of t t a a p p (reads_nothing t a p)

-- A record of at most 12,000 bytes touches at most 5 pages.
few_pages : (k reach : ℕ) → k ≤ 12000 → 5 ≤ reach → (4 + k + (4096 - 16) - 1) / (4096 - 16) + 1 ≤ reach
few_pages k reach short enough = omega (arith, short, enough)

holds_added : (t u : Option Blocks) (a b : LotView) (p : PurseView) (row : List ℕ) → length row ≤ 12000 → CanAdd t a p → BothTold t u (AppendsRow a b p.pages row) → Holds u b
holds_added None None a b p row short can adds = tt
holds_added None (Some n) a b p row short can adds = absurd adds
holds_added (Some m) None a b p row short can adds = tt
holds_added (Some m) (Some n) a b p row short can adds =
    (can.holds.0 ++ row ∷ [], adds.rows 4096 (one_stands 4096 p.pages a m can.stands.stand) can.holds.0 can.holds.1 (few_pages (length row) a.feed.reach short can.reach))

pub can_add_on : {E : Type 0} (answer : Result Unit E) (t u : Option Blocks) (a b : LotView) (p q : PurseView) (row : List ℕ) → length row ≤ 12000 → CanAdd t a p → Writes t u p q a b
    → OnOk answer (BothTold t u (AppendsRow a b p.pages row)) → OnOk answer (IsSupplied q b) → OnOk answer (CanAdd u b q)
can_add_on (Ok done) t u a b p q row short can writes adds supply = record {
  reach = omega (arith, can.reach, writes.reach 0 a);
  stands = stands_on t u a b p q (0 ∷ []) writes can.stands;
  holds = holds_added t u a b p row short can adds;
  supply = supply;
}
can_add_on (Err fault) t u a b p q row short can writes adds supply = tt

holds_same : (t u : Option Blocks) (a b : LotView) → Holds t a → BothTold t u (KeepsContents a b) → Holds u b
holds_same None None a b holds keeps = tt
holds_same None (Some n) a b holds keeps = absurd keeps
holds_same (Some m) None a b holds keeps = tt
holds_same (Some m) (Some n) a b holds keeps = (holds.0, keeps.rows holds.0 holds.1)

-- There are segments for a lot that rests, and for reading it.
pub enough_on : (t u : Option Blocks) (a b : LotView) (p q : PurseView) → Writes t u p q a b → a.stored.room + a.feed.reach ≤ length p.pages + length (held a) → b.stored.room + b.feed.reach ≤ length q.pages + length (held b)
enough_on t u a b p q writes enough =
    omega (arith, count_same t u a b p q (0 ∷ []) writes, enough, writes.reach 0 a, writes.rooms 0 a)

pub can_rewind : (b : LotView) (q : PurseView) → b.stored.room + b.feed.reach ≤ length q.pages + length (held b) → length (held b) ≤ b.stored.room → CanRewind b q
can_rewind b q enough rests = omega (arith, enough, rests)

-- A lot that was filled was brought to rest.
pub can_read_rested : {E : Type 0} (answer : Result Unit E) (t u : Option Blocks) (a b : LotView) (p q : PurseView) → CanAdd t a p → a.stored.room + a.feed.reach ≤ length p.pages + length (held a) → Writes t u p q a b
    → length (held b) ≤ b.stored.room → OnOk answer (BothTold t u (KeepsContents a b)) → OnOk answer (CanRead u b q)
can_read_rested (Ok done) t u a b p q can enough writes rests keeps = record {
  stands = stands_on t u a b p q (0 ∷ []) writes can.stands;
  holds = holds_same t u a b can.holds keeps;
  supply = can_rewind b q (enough_on t u a b p q writes enough) rests;
}
can_read_rested (Err fault) t u a b p q can enough writes rests keeps = tt

-- A lot that was read has the records that it had.
pub holds_read : (t u : Option Blocks) (a b : LotView) (p q : PurseView) → Reads t u p q a b → Stands t a p → Holds t a → Holds u b
holds_read None None a b p q reads stands holds = tt
holds_read None (Some n) a b p q reads stands holds = absurd reads.told
holds_read (Some m) None a b p q reads stands holds = tt
holds_read (Some m) (Some n) a b p q reads stands holds =
    (holds.0, rows_kept_on (alone (Some m) p a) (alone (Some n) q b) (0 ∷ []) [] true m n 0 a holds.0 (record { ready = ready_of (Some m) a p stands; preserves = reads }) refl refl (omega arith) tt holds.1)

pub can_read_on : (t u : Option Blocks) (a b : LotView) (p q : PurseView) → CanRead t a p → IsRewound b → Reads t u p q a b → CanRead u b q
can_read_on t u a b p q can ready reads = record {
  stands = stands_on t u a b p q [] reads can.stands;
  holds = holds_read t u a b p q reads can.stands can.holds;
  supply = omega (arith, ready.started);
}

-- The rows that a rewound lot has left are known.
known_of : (t : Option Blocks) (a b : LotView) → Holds t a → IfTold t (λ m. (rows : List (List ℕ)) → HoldsRows m a rows → HasLeft m b.feed rows) → KnowsRows t (IsLeft b t)
known_of None a b holds begins = tt
known_of (Some m) a b holds begins = (holds.0, begins holds.0 holds.1)

pub known_begun : (t u : Option Blocks) (a b : LotView) → u ≡ t → Holds t a → IfTold t (λ m. (rows : List (List ℕ)) → HoldsRows m a rows → HasLeft m b.feed rows) → KnowsRows u (IsLeft b u)
known_begun t u a b same holds begins =
    subst (λ o. KnowsRows o (IsLeft b o)) (sym same) (known_of t a b holds begins)

-- What is left of rows behind the first.
known_rest : (rows : List (List ℕ)) (shown : Option (List ℕ)) (left : List (List ℕ) → Type 0) → Advances rows true shown left → (rest : List (List ℕ)) × left rest
known_rest [] shown left step = absurd step
known_rest (row ∷ rows) shown left step = (rows, step.1)

pub known_on : (t u : Option Blocks) (a b : LotView) (more : Bool) (shown : Option (List ℕ)) → KnowsRows t (IsLeft a t) → ((rows : List (List ℕ)) → IsLeft a t rows → Advances rows more shown (IsLeft b u)) → more ≡ true → u ≡ t → KnowsRows u (IsLeft b u)
known_on None u a b more shown known step is same =
    subst (λ o. KnowsRows o (IsLeft b u)) (sym same) tt
known_on (Some m) u a b more shown (rows, left) step is same =
    subst (λ o. KnowsRows o (IsLeft b u)) (sym same) (known_rest rows shown (IsLeft b u) (subst (λ k. Advances rows k shown (IsLeft b u)) is (step rows left)))

pub reads_on : (t u v : Option Blocks) (a b c : LotView) → ReadsOn t u a b → IsRewound c → ((p : PurseView) → Reads u v p p b c) → ReadsOn t v a c
reads_on t u v a b c on ready reads = record {
  ready = ready;
  reads = λ p. reads_join t u v a b c p p p (on.reads p) (reads p);
}

-- An empty lot.
pub can_add_empty : (t : Option Blocks) (a : LotView) (p : PurseView) → a ≡ empty a.stored.room 5 → count_other_size 4096 p.pages ≡ 0 → length p.pages ≤ p.room → 0 < length p.pages → CanAdd t a p
can_add_empty t a p is fits room some =
    subst (λ l. CanAdd t l p) (sym is) (record {
      reach = omega arith;
      stands = record {
        room = omega (arith, room, sum_by-cons (λ (l : LotView). length (held l)) (empty a.stored.room 5) []);
        stand = stands_empty t a.stored.room 5;
      };
      holds = holds_empty t a.stored.room 5;
      supply = omega (arith, some);
    })
  where
    stands_empty : (s : Option Blocks) (n reach : ℕ) → IfTold s (Stand 4096 p.pages (empty n reach ∷ []))
    stands_empty None n reach = tt
    stands_empty (Some m) n reach =
        stand_one 4096 p.pages (empty n reach) m (record { own = refl; others = fits; spilled = tt; reads = λ block left. absurd left })

    holds_empty : (s : Option Blocks) (n reach : ℕ) → Holds s (empty n reach)
    holds_empty None n reach = tt
    holds_empty (Some m) n reach = ([], record { bytes = refl; lengths = All-nil (λ (r : List ℕ). length r < 2 ^ 32); reach = tt })

-- All segments of an empty lot that was written and dropped are in the purse.
pub all_home : (t u v w : Option Blocks) (a b c : LotView) (p q r : PurseView) (tidy : Bool) → Writes t u p q a b → Preserves (alone w q b) (alone v r c) (0 ∷ []) (0 ∷ []) tidy → held a ≡ [] → held c ≡ []
    → (h : ℕ → ℕ → ℕ) → segment_sum h r.pages ≡ segment_sum h p.pages
all_home t u v w a b c p q r tidy writes drops none none_now h =
    omega (arith, writes.segments h, drops.segments h, one_sum a, one_sum b, one_sum c, ap (segment_sum h) none, ap (segment_sum h) none_now)
  where
    one_sum : (l : LotView) → held_sum h (l ∷ []) ≡ segment_sum h (held l)
    one_sum l = omega (arith, sum_by-cons (λ (x : LotView). segment_sum h (held x)) l [])

-- Over a disk that doesn't tell nothing is to be known.
pub untold_on : (t u : Option Blocks) (P : Blocks → Blocks → Type 0) → t ≡ None → BothTold t u P → u ≡ None
untold_on None None P none change = refl
untold_on None (Some n) P none change = absurd change
untold_on (Some m) u P none change = let is = none in cc

pub ready_untold : (t : Option Blocks) (a : LotView) (p : PurseView) → t ≡ None → length p.pages + length (held a) ≤ p.room → IsReady (alone t p a)
ready_untold t a p none room =
    subst (λ o. IsReady (alone o p a)) (sym none) (record { room = omega (arith, room, sum_by-cons (λ (l : LotView). length (held l)) a []); stand = tt })

pub can_read_untold : (t u : Option Blocks) (a b : LotView) (p q : PurseView) → t ≡ None → length p.pages + length (held a) ≤ p.room → a.stored.room + a.feed.reach ≤ length p.pages + length (held a) → Writes t u p q a b
    → length (held b) ≤ b.stored.room → CanRead u b q
can_read_untold t u a b p q none room enough writes rests =
    subst (λ o. CanRead o b q) (sym (untold_on t u (StaysStanding (alone t p a) (alone u q b) (0 ∷ []) true) none writes.told)) (record {
      stands = record { room = omega (arith, room, count_same t u a b p q (0 ∷ []) writes, writes.purse_room, sum_by-cons (λ (l : LotView). length (held l)) b []); stand = tt };
      holds = tt;
      supply = can_rewind b q (enough_on t u a b p q writes enough) rests;
    })

both_untold : (t u : Option Blocks) (P : Blocks → Blocks → Type 0) → t ≡ None → u ≡ None → BothTold t u P
both_untold t u P none none_now =
    subst (λ o. BothTold o u P) (sym none) (subst (λ o. BothTold None o P) (sym none_now) tt)

pub writes_untold : (t u : Option Blocks) (a b : LotView) (p q : PurseView) → t ≡ None → u ≡ None → MovesSegments a b p.pages q.pages → q.room ≡ p.room → b.stored.room ≡ a.stored.room → b.feed.reach ≡ a.feed.reach → Writes t u p q a b
writes_untold t u a b p q none none_now moves room own reach =
    writes_one t u a b p q (both_untold t u (Keeps a b p.pages q.pages) none none_now) moves room own reach

-- A page was taken from the purse, written and added.
pub writes_page : (t u : Option Blocks) (a b : LotView) (p q r : PurseView) (page filled : SegmentView) → t ≡ None → p.pages ≡ q.pages ++ page ∷ [] → q.room ≡ p.room → IsSameSegment page filled
    → Writes t u (with_segment filled q) r a b → Writes t u p r a b
writes_page t u a b p q r page filled none taken room same writes =
    writes_untold t u a b p r none (untold_on t u (StaysStanding (alone t (with_segment filled q) a) (alone u r b) (0 ∷ []) true) none writes.told) moves (writes.purse_room ∙ room) (writes.rooms 0 a) (writes.reach 0 a)
  where
    one_sum : (h : ℕ → ℕ → ℕ) (l : LotView) → held_sum h (l ∷ []) ≡ segment_sum h (held l)
    one_sum h l = omega (arith, sum_by-cons (λ (x : LotView). segment_sum h (held x)) l [])

    one : (h : ℕ → ℕ → ℕ) → h filled.id (length filled.bytes) ≡ h page.id (length page.bytes)
    one h = ap (λ i. h i (length filled.bytes)) same.id ∙ ap (h page.id) same.len

    moves : MovesSegments a b p.pages r.pages
    moves h =
        omega (arith, writes.segments h, one_sum h a, one_sum h b, segment_sum-cons h filled q.pages, one h, ap (segment_sum h) taken, segment_sum-push h q.pages page)
