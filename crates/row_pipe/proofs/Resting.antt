-- How a lot begins to be read beside another, and how both come to rest.
use Rattle.std.proofs.Common.{Result, OnOk, ◌≡◌, ◌≢◌, ℕ, ◌+◌, ◌<◌, ◌≤◌, true, List, [], ◌∷◌, length, Option, Some, None, ap, subst, sym, arith, length-append}
use Rattle.segment_core.specs.Segments.{PurseView, SegmentView}
use Rattle.flow_outside.specs.Blocks.{Blocks, BothTold}
use Rattle.flow_outside.specs.Told.{IfTold}
use Rattle.flow_types.specs.Types.{Fields}
use Rattle.flow_model.specs.Env.{Tuples}
use Rattle.page_feed.specs.Feeds.{FeedView, HasLeft, IsStarted, lent}
use Rattle.lot_store.specs.LotCalls.{KeepsContents, Reads, Writes}
use Rattle.lot_store.specs.LotKeeping.{KeepsRows}
use Rattle.lot_store.specs.Lots.{HoldsRows, LotView, held, pages_of}
use Rattle.lot_store.specs.Storage.{IsReady, Stand, alone, held_count, pair}
use Rattle.lot_store.specs.Stores.{PagesView, held as held_stored}
use Rattle.lot_store.proofs.LotLemmas.{on_ok_map}
use Rattle.lot_store.proofs.StorageLaws.{counts_after}
use Rattle.lot_store.proofs.Telling.{told_map}
use Rattle.std.proofs.lemmas.List.Sums.{sum_by-cons}
use Rattle.row_pipe.specs.Pipes.{CanAdd, GivesAll, GivesRows, HasPlaces, HoldsTuples, HoldsWhatFits, LeavesTuples, MayPass, Passes}
use Rattle.row_pipe.specs.declared.work.Work.{Work}
use Rattle.row_pipe.proofs.Passing.{passes_join, passes_read, passes_written, places_on, ready_on, ready_second}
use Rattle.row_pipe.proofs.Turning.{gives_rows}

one_count : (lot : LotView) → held_count (lot ∷ []) ≡ length (held lot)
one_count lot = omega (arith, sum_by-cons (λ (l : LotView). length (held l)) lot [])

segments_of : (a : LotView) → length (held a) ≡ length (held_stored (pages_of a)) + length (lent a.feed)
segments_of a = length-append (held_stored (pages_of a)) (lent a.feed)

same_segments : (a b : LotView) → pages_of b ≡ pages_of a → length (held_stored (pages_of b)) ≡ length (held_stored (pages_of a))
same_segments a b pages = ap (λ s. length (held_stored s)) pages

pub places_of : (t : Option Blocks) (fields : Fields) (w : Work) (a x : LotView) (p : List SegmentView) → IfTold t (HoldsWhatFits fields w a x p) → IfTold t (HasPlaces fields w a x p)
places_of None fields w a x p holds = tt
places_of (Some m) fields w a x p holds = holds.places

-- A call may work on both lots.
pub ready_pair : (t : Option Blocks) (fields : Fields) (w : Work) (a x : LotView) (p : PurseView) → MayPass a x p → IfTold t (HasPlaces fields w a x p.pages) → IsReady (pair t p a x)
ready_pair t fields w a x p may places = record { room = may.room; stand = known t places }
  where
    known : (o : Option Blocks) → IfTold o (HasPlaces fields w a x p.pages) → IfTold o (λ m. (size : ℕ) × Stand size p.pages (a ∷ x ∷ []) m)
    known None h = tt
    known (Some m) h = (h.size, h.stand)

-- Where the purse has more than the segments for reading, a record may be added to the other lot.
pub can_begin : (t u : Option Blocks) (fields : Fields) (w : Work) (a b x : LotView) (p q : PurseView) → Reads t u p q a b → IsStarted b.feed → MayPass a x p → IfTold t (HasPlaces fields w a x p.pages) → CanAdd u x q
can_begin t u fields w a b x p q reads started may places =
    let some : 0 < length q.pages =
    omega (arith, counts_after (alone t p a) (alone u q b) (0 ∷ []) [] true reads, one_count a, one_count b, segments_of a, segments_of b, same_segments a b (reads.pages 0 a tt), started, reads.reach 0 a, may.supply) in
    record {
      supply = omega (arith, some);
      ready = ready_second u q b x (ready_on t u a b x x p q (passes_read t u a b x p q reads) (ready_pair t fields w a x p may places));
    }

-- What is left, once it begins to be read.
pub left_known : (t u : Option Blocks) (fields : Fields) (w : Work) (a b x : LotView) (p : List SegmentView) → u ≡ t → IfTold t (λ m. (rows : List (List ℕ)) → HoldsRows m a rows → HasLeft m b.feed rows)
    → IfTold t (HoldsWhatFits fields w a x p) → IfTold u (λ m. (rows : Tuples) × LeavesTuples fields m b rows)
left_known t u fields w a b x p same begun holds = subst (λ o. IfTold o (λ m. (rows : Tuples) × LeavesTuples fields m b rows)) (sym same) (at_one t begun holds)
  where
    at_one : (o : Option Blocks) → IfTold o (λ m. (rows : List (List ℕ)) → HoldsRows m a rows → HasLeft m b.feed rows) → IfTold o (HoldsWhatFits fields w a x p) → IfTold o (λ m. (rows : Tuples) × LeavesTuples fields m b rows)
    at_one None f h = tt
    at_one (Some m) f h = (h.tuples, record { records = f _ h.holds.records; fitting = h.holds.fitting })

-- The lot that was read holds no more than its room beside the segments for reading.
pub fits_beside : (t u : Option Blocks) (a b x y : LotView) (p q : PurseView) → Passes t u a b x y p q → length (held a) ≤ a.stored.room → length (held b) ≤ b.stored.room + length (lent b.feed)
fits_beside t u a b x y p q passes rests =
    omega (arith, segments_of a, segments_of b, same_segments a b (passes.pages 0 a (λ is. omega (arith, is), tt)), passes.rooms 0 a, rests)

-- What both lots keep where the first comes to rest with nothing written, and then the second.
pub passes_rested : (t u v : Option Blocks) (a b x y : LotView) (p q r : PurseView) → Reads t u p q a b → Writes u v q r x y → Passes t v a b x y p r
passes_rested t u v a b x y p q r reads writes =
    passes_join t u v a b b x x y p q r (passes_read t u a b x p q reads) (passes_written u v b x y q r writes)

-- the records of a lot that kept its contents, on a disk that is as it was
pub rows_rested : {E : Type 0} (answer : Result Unit E) (t u v : Option Blocks) (x y : LotView) → u ≡ t → OnOk answer (BothTold u v (KeepsContents x y)) → OnOk answer (BothTold t v (KeepsRows x y))
rows_rested answer t u v x y same keeps =
    on_ok_map answer (BothTold u v (KeepsContents x y)) (BothTold t v (KeepsRows x y))
    (λ h. subst (λ o. BothTold o v (KeepsRows x y)) same (told_map u v (KeepsContents x y) (KeepsRows x y) (λ m n k. k.rows) h)) keeps

-- All rows were given.
pub rows_given : {E : Type 0} (answer : Result Unit E) (s t u z : Option Blocks) (fields : Fields) (w : Work) (a b x y o : LotView) (p q : PurseView) → t ≡ s
    → IfTold s (HasPlaces fields w a x p.pages) → IfTold s (λ m. (rows : List (List ℕ)) → HoldsRows m a rows → HasLeft m b.feed rows)
    → Passes s t a b x x p q → BothTold t u (GivesAll fields w b x y q.pages) → OnOk answer (BothTold u z (KeepsRows y o))
    → OnOk answer (BothTold s z (GivesRows fields w a x o))
rows_given answer s t u z fields w a b x y o p q begun places left passes gives keeps =
    on_ok_map answer (BothTold u z (KeepsRows y o)) (BothTold s z (GivesRows fields w a x o))
    (λ h. gives_rows fields w s u z a b x y o p q places left
    (subst (λ k. Passes s k a b x x p q) begun passes)
    (subst (λ k. BothTold k u (GivesAll fields w b x y q.pages)) begun gives) h)
    keeps
