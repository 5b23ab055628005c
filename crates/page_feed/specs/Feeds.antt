-- Feeds as contracts see them, and the bytes and records that they have left. The rules are this project's own.
use Rattle.std.specs.Prelude.{◌≡◌, ℕ, ◌+◌, ◌-◌, ◌*◌, ◌^◌, ◌<◌, List, [], ◌++◌, All, length, take, drop, map, Option, Some, None, ⊤}
use Rattle.segment_core.specs.Segments.{SegmentView, count_other_size}
use Rattle.flow_outside.specs.Blocks.{Blocks}
use Rattle.flow_types.specs.Records.{frames}
use Rattle.paged_view.specs.Pages.{used_bytes, all_used_bytes}
use Rattle.paged_view.specs.Reading.{Reading}
use Rattle.spool.specs.Headers.{as_page}
use Rattle.spool.specs.Reading.{IsReadable}
use Rattle.spool.specs.Runs.{HasBlock, joined, pages_at}
use Rattle.spool.specs.declared.place.RunReader.{RunReader}
use Rattle.page_feed.specs.Reach.{IsWithinReach, behind, sizes_of}

-- A feed gives the records of pages that stand in three places: kept pages, pages of a run on a disk, which are read one
-- by one into lent segments, and the open page behind them. It is seen as the most kept pages that it takes, the
-- most pages that a record touches, the kept pages that were passed, the reader that holds the pages being read, of which
-- the first `of_kept` are kept ones and the next `of_run` came from the run, the kept pages that are ahead, the reader of
-- the run, the open page where it isn't being read yet, the lent segments that hold no page, and the record shown.
pub record FeedView : Type 0 where
  pub room : ℕ
  pub reach : ℕ
  pub passed : List SegmentView
  pub reader : Reading
  pub of_kept : ℕ
  pub of_run : ℕ
  pub ahead : List SegmentView
  pub run : Option RunReader
  pub open_page : List SegmentView
  pub blank : List SegmentView
  pub shown : Option (List ℕ)

-- the kept pages, in order
abbrev pub kept_in : FeedView → List SegmentView
kept_in f = f.passed ++ (take f.of_kept f.reader.pages ++ f.ahead)

-- the open page, where there is one
abbrev pub open_page_in : FeedView → List SegmentView
open_page_in f = drop (f.of_kept + f.of_run) f.reader.pages ++ f.open_page

-- the lent segments
abbrev pub lent : FeedView → List SegmentView
lent f = take f.of_run (drop f.of_kept f.reader.pages) ++ f.blank

-- all segments that it holds
abbrev pub held : FeedView → List SegmentView
held f = kept_in f ++ (open_page_in f ++ lent f)

-- the run's pages that weren't read yet
abbrev pub pages_left : Blocks → Option RunReader → List (List ℕ)
pages_left blocks None = []
pages_left blocks (Some run) = pages_at blocks run.at run.left

-- the bytes that weren't read yet
abbrev pub unread : Blocks → FeedView → List ℕ
unread blocks f = f.reader.text ++ (all_used_bytes f.ahead ++ (joined (pages_left blocks f.run) ++ all_used_bytes f.open_page))

-- the sizes of the pages that weren't read whole yet, less the bytes that were read
abbrev pub sizes_left : Blocks → FeedView → List ℕ
sizes_left blocks f =
    behind (length (all_used_bytes f.reader.pages) - length f.reader.text)
    (sizes_of f.reader.pages ++ (sizes_of f.ahead ++ (map (λ page. length (used_bytes (as_page page))) (pages_left blocks f.run) ++ sizes_of f.open_page)))

-- What is left of the run stands on the disk.
abbrev pub IsLeftReadable : Blocks → (size : ℕ) → Option RunReader → Type 0
IsLeftReadable blocks size None = ⊤
IsLeftReadable blocks size (Some run) = IsReadable blocks size run

-- This block is one of those that are left of the run.
abbrev pub HasBlockLeft : Blocks → Option RunReader → (block : ℕ) → Type 0
HasBlockLeft blocks None block = ⊥
HasBlockLeft blocks (Some run) block = HasBlock blocks run.at run.left block

-- The block that was read last, 0 where none was.
abbrev pub block_of : Option RunReader → ℕ
block_of None = 0
block_of (Some run) = run.block

-- The same, and this block where no run is read.
abbrev pub block_or : Option RunReader → (other : ℕ) → ℕ
block_or None other = other
block_or (Some run) other = run.block

-- These records are left: the unread bytes are theirs, framed, none touches more pages than the feed's reach, and the
-- run's pages stand on the disk, as long as each of the lent segments.
pub record HasLeft (blocks : Blocks) (f : FeedView) (rows : List (List ℕ)) : Type 0 where
  pub size : ℕ
  pub sized : count_other_size size (lent f) ≡ 0
  pub run : IsLeftReadable blocks size f.run
  pub text : unread blocks f ≡ frames rows
  pub lengths : All (λ row. length row < 2 ^ 32) rows
  pub reach : IsWithinReach f.reach (sizes_left blocks f) rows

-- It may be advanced: as many segments are lent as a record touches pages.
abbrev pub IsStarted : FeedView → Type 0
IsStarted f = length (lent f) ≡ f.reach

-- The feed that takes up to `room` kept pages and records of at most `reach` pages, and holds nothing.
abbrev pub stopped : (room reach : ℕ) → FeedView
stopped room reach = record {
  room = room;
  reach = reach;
  passed = [];
  reader = record { room = reach; pages = []; head = []; text = [] };
  of_kept = 0;
  of_run = 0;
  ahead = [];
  run = None;
  open_page = [];
  blank = [];
  shown = None;
}

-- how many of the run's pages weren't read yet
abbrev pub pages_to_read : Option RunReader → ℕ
pages_to_read None = 0
pages_to_read (Some run) = run.left

-- The bytes of pages in memory that weren't read yet, and for each page of the run as many as the largest has: no more
-- records are left than that.
abbrev pub most_left : FeedView → ℕ
most_left f = length f.reader.text + (length (all_used_bytes f.ahead) + (32752 * pages_to_read f.run + length (all_used_bytes f.open_page)))
