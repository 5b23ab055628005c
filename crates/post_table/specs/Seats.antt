-- A post and its seats as contracts see them.
use Rattle.std.specs.Prelude.{◌≡◌, ℕ, ◌+◌, ◌*◌, ◌%◌, List, [], ◌∷◌, length, map}
use Rattle.atomic_table.specs.Seated.{TableId}
use Rattle.segment_core.specs.Segments.{SegmentView}
use Rattle.exchange_core.specs.Machine.{IsWorkerCount}
use Rattle.post_table.specs.Pairs.{pair_count, pair_number}
use Rattle.post_table.specs.Views.{looked, with_posted, with_taken}
use Rattle.post_table.specs.Steps.{IsUnreceived, HasTakenKnown}
use Rattle.post_table.specs.declared.view.View.{View}

-- A post is seen as its table's name, the number of its workers, the bytes of each segment, the ids of
-- the opening spares by the numbers of their pairs, and the room of the purse that `close` gives.
pub record PostView : Type 0 where
  pub table : TableId
  pub workers : ℕ
  pub size : ℕ
  pub spares : List ℕ
  pub room : ℕ

-- A seat is seen as its table's name and its view.
pub record SeatView : Type 0 where
  pub table : TableId
  pub view : View

-- This post made the seat.
pub record MadeBy (post : PostView) (seat : SeatView) : Type 0 where
  pub table : seat.table ≡ post.table
  pub workers : seat.view.count ≡ post.workers
  pub size : seat.view.size ≡ post.size

-- The words and the slots of a table are those of all pairs among so many workers.
pub record IsTableOf (table : TableId) (workers : ℕ) : Type 0 where
  pub words : table.words ≡ pair_count workers
  pub slots : table.slots ≡ pair_count workers
  pub count : IsWorkerCount workers

-- How many bytes the first of these pages has, 0 where there is none.
abbrev pub size_of : List SegmentView → ℕ
size_of [] = 0
size_of (page ∷ pages) = length page.bytes

-- The ids of these pages.
abbrev pub ids_of : List SegmentView → List ℕ
ids_of pages = map (λ (page : SegmentView). page.id) pages

-- The page went into the mailbox to c, in which no page waited, and the spare came out of it.
pub record IsPosted (w c : ℕ) (page spare : SegmentView) (old new : View) : Type 0 where
  pub view : new ≡ with_posted (pair_number w old.number c) page spare.id (looked (2 * spare.id) old)
  pub size : length spare.bytes ≡ old.size

-- A page waited in the mailbox to c, and no meeting knew that all posted to c was received.
pub record IsNotPosted (w c : ℕ) (old new : View) : Type 0 where
  pub view : new ≡ looked new.last old
  pub saw : new.last % 2 ≡ 1
  pub unknown : IsUnreceived (pair_number w old.number c) old

-- The page came out of the mailbox of p, and the spare went into it.
pub record IsTaken (w p : ℕ) (page spare : SegmentView) (old new : View) : Type 0 where
  pub view : new ≡ with_taken (pair_number w p old.number) page.bytes spare.id page.id (looked (2 * page.id + 1) old)
  pub size : length page.bytes ≡ old.size

-- No page waited in the mailbox of p, and no meeting knew of one that wasn't taken.
pub record IsNotTaken (w p : ℕ) (old new : View) : Type 0 where
  pub view : new ≡ looked new.last old
  pub saw : new.last % 2 ≡ 0
  pub unknown : HasTakenKnown (pair_number w p old.number) old
