-- Lots as contracts see them, and the bytes and records that they stand for. The rules are this project's own.
use Rattle.std.specs.Prelude.{◌≡◌, ◌^◌, ◌+◌, ◌<◌, ◌≤◌, ℕ, List, [], ◌++◌, All, length, Option, Some, None}
use Rattle.segment_core.specs.Segments.{SegmentView, count_other_size}
use Rattle.flow_outside.specs.Blocks.{Blocks}
use Rattle.flow_outside.specs.Told.{IfTold}
use Rattle.flow_types.specs.Records.{frames}
use Rattle.paged_view.specs.Pages.{body, page_at, used_bytes, used}
use Rattle.page_feed.specs.Feeds.{FeedView, HasBlockLeft, HasLeft, IsStarted, kept_in, open_page_in, lent, stopped}
use Rattle.page_feed.specs.Reach.{IsWithinReach}
use Rattle.spool.specs.Spilling.{IsSpilled, OwnsBlock}
use Rattle.lot_store.specs.Stores.{PagesView, held as held_stored, sizes as sizes_stored, text as text_stored}

-- A lot is seen as its pages while they are written, the feed that reads them, and the block that was read last since it
-- was last rewound, 0 where none was: the lot knows it until it is rewound again. While it is read, the feed has those of its
-- pages that stand in segments.
pub record LotView : Type 0 where
  pub stored : PagesView
  pub feed : FeedView
  pub read_last : ℕ

-- the lot's pages, wherever they stand
abbrev pub pages_of : LotView → PagesView
pages_of lot = record {
  room = lot.stored.room;
  kept = lot.stored.kept ++ kept_in lot.feed;
  run = lot.stored.run;
  open_page = lot.stored.open_page ++ open_page_in lot.feed;
}

-- the segments that a lot holds, those for reading too
abbrev pub held : LotView → List SegmentView
held lot = held_stored (pages_of lot) ++ lent lot.feed

-- the bytes that a lot stands for
abbrev pub text : Blocks → LotView → List ℕ
text blocks lot = text_stored blocks (pages_of lot)

-- how many bytes are used of each of its pages, that under way the last
abbrev pub sizes : Blocks → LotView → List ℕ
sizes blocks lot = sizes_stored blocks (pages_of lot)

-- These are the records of a lot, in order: its bytes are theirs, framed, and none touches more pages than its reach.
pub record HoldsRows (blocks : Blocks) (lot : LotView) (rows : List (List ℕ)) : Type 0 where
  pub bytes : text blocks lot ≡ frames rows
  pub lengths : All (λ row. length row < 2 ^ 32) rows
  pub reach : IsWithinReach lot.feed.reach (sizes blocks lot) rows

-- It isn't being read: its feed holds nothing, and shows no record.
abbrev pub IsAtRest : LotView → Type 0
IsAtRest lot = lot.feed ≡ stopped lot.feed.room lot.feed.reach

-- the lot that holds nothing, of which at most `room` full pages are kept in segments, and whose records touch at most
-- `reach` pages each
abbrev pub empty : (room reach : ℕ) → LotView
empty room reach = record {
  stored = record { room = room; kept = []; run = None; open_page = [] };
  feed = stopped room reach;
  read_last = 0;
}

-- It may be advanced: its feed was started, with all pages that stand in segments.
pub record IsRewound (lot : LotView) : Type 0 where
  pub started : IsStarted lot.feed
  pub kept : lot.stored.kept ≡ []
  pub open_page : lot.stored.open_page ≡ []

-- By what the disk tells, these records are left to be read. Of a disk that doesn't tell none are known.
abbrev pub IsLeft : LotView → Option Blocks → (rows : List (List ℕ)) → Type 0
IsLeft lot None rows = ⊥
IsLeft lot (Some blocks) rows = HasLeft blocks lot.feed rows

-- Each block that is left to be read is one of the lot's run.
abbrev pub ReadsOwn : Blocks → LotView → Type 0
ReadsOwn blocks lot = (block : ℕ) → HasBlockLeft blocks lot.feed.run block → OwnsBlock blocks lot.stored.run block

-- A lot stands on its disk, beside the segments of a purse: all segments have `size` bytes, and so have the spilled
-- pages, which stand as a run, and it reads no others.
pub record StandsWith (size : ℕ) (lot : LotView) (purse : List SegmentView) (blocks : Blocks) : Type 0 where
  pub own : count_other_size size (held lot) ≡ 0
  pub others : count_other_size size purse ≡ 0
  pub spilled : IsSpilled blocks size lot.stored.run
  pub reads : ReadsOwn blocks lot

-- Where the disk tells, the lot stands on it, for some size of segments.
abbrev pub IsSound : Option Blocks → LotView → (purse : List SegmentView) → Type 0
IsSound told lot purse = IfTold told (λ blocks. (size : ℕ) × StandsWith size lot purse blocks)

-- What is true of every lot: its feed takes as many pages as it keeps. Where the feed has any of its pages, it has all
-- that stand in segments. Some bytes of each are used, and of the open page no more than it has. It reads no run where no
-- page was spilled.
pub record IsLot (stored : PagesView) (feed : FeedView) : Type 0 where
  pub room : feed.room ≡ stored.room
  pub whole : 0 < length (kept_in feed) + length (open_page_in feed) → length stored.kept + length stored.open_page ≡ 0
  pub fits : length (kept_in feed) ≤ stored.room
  pub filled : All (λ page. 0 < length (used_bytes page)) (kept_in feed)
  pub one : length (open_page_in feed) ≤ 1
  pub some : 0 < length (open_page_in feed) → 0 < used (page_at (open_page_in feed) 0)
  pub within : used (page_at (open_page_in feed) 0) ≤ length (body (page_at (open_page_in feed) 0))
  pub reads : stored.run ≡ None → feed.run ≡ None
