-- The pages of a lot as its writing sees them, and the bytes that they stand for. The rules are this project's own.
use Rattle.std.specs.Prelude.{◌≡◌, ◌+◌, ◌<◌, ◌≤◌, ℕ, All, List, ◌++◌, length, map, Option}
use Rattle.segment_core.specs.Segments.{SegmentView, count_other_size}
use Rattle.flow_outside.specs.Blocks.{Blocks}
use Rattle.flow_outside.specs.Told.{IfTold}
use Rattle.paged_view.specs.Pages.{body, page_at, used_bytes, all_used_bytes, used}
use Rattle.spool.specs.Headers.{as_page}
use Rattle.spool.specs.Runs.{joined}
use Rattle.spool.specs.declared.writer.RunWriter.{RunWriter}
use Rattle.page_feed.specs.Reach.{sizes_of}
use Rattle.spool.specs.Spilling.{IsBegun, IsSpilled, spilled}

-- Pages that are written one behind the other are seen as the most full pages that are kept in segments, the first pages,
-- which are kept in segments, the run of those behind them, which are spilled, and the open page behind all of
-- these, where there is one.
pub record PagesView : Type 0 where
  pub room : ℕ
  pub kept : List SegmentView
  pub run : Option RunWriter
  pub open_page : List SegmentView

-- the segments that they stand in
abbrev pub held : PagesView → List SegmentView
held lot = lot.kept ++ lot.open_page

-- The bytes that they stand for: the used bytes of the pages, kept, spilled and under way, one after the other.
abbrev pub text : Blocks → PagesView → List ℕ
text blocks lot = all_used_bytes lot.kept ++ (joined (spilled blocks lot.run) ++ all_used_bytes lot.open_page)

-- How many bytes are used of each page that was stored, kept or spilled, one page after the other. The open page
-- isn't among them.
abbrev pub stored_sizes : Blocks → PagesView → List ℕ
stored_sizes blocks lot =
    sizes_of lot.kept ++ map (λ page. length (used_bytes (as_page page))) (spilled blocks lot.run)

-- how many bytes are used of each page, that under way the last
abbrev pub sizes : Blocks → PagesView → List ℕ
sizes blocks lot = stored_sizes blocks lot ++ sizes_of lot.open_page

-- They stand on their disk, beside the segments of a purse: all segments have `size` bytes, and so have the spilled
-- pages, which stand as a run.
pub record StandsWith (size : ℕ) (lot : PagesView) (purse : List SegmentView) (blocks : Blocks) : Type 0 where
  pub own : count_other_size size (held lot) ≡ 0
  pub others : count_other_size size purse ≡ 0
  pub spilled : IsSpilled blocks size lot.run

-- Where the disk tells, they stand on it, for some size of segments.
abbrev pub IsSound : Option Blocks → PagesView → (purse : List SegmentView) → Type 0
IsSound told lot purse = IfTold told (λ blocks. (size : ℕ) × StandsWith size lot purse blocks)

-- Some bytes of each page are used, and of the open page, of which there is one at most, no more than it has. A run has a
-- page at least.
pub record ArePages (lot : PagesView) : Type 0 where
  pub filled : All (λ page. 0 < length (used_bytes page)) lot.kept
  pub one : length lot.open_page ≤ 1
  pub some : 0 < length lot.open_page → 0 < used (page_at lot.open_page 0)
  pub within : used (page_at lot.open_page 0) ≤ length (body (page_at lot.open_page 0))
  pub begun : IsBegun lot.run

-- What is always true of them: the list of kept pages, of `len`, has space reserved for its room, and the list of the page
-- under way, of `count`, for one. Some bytes of each page are used, and of the open page no more than it has. A run has a page
-- at least.
pub record IsStore (kept open_page : List SegmentView) (len capacity room : ℕ) (run : Option RunWriter) (count space : ℕ) : Type 0 where
  pub filled : All (λ page. 0 < length (used_bytes page)) kept
  pub fits : len ≤ room
  pub reserved : room ≤ capacity
  pub one : count ≤ 1
  pub place : 1 ≤ space
  pub some : 0 < count → 0 < used (page_at open_page 0)
  pub within : used (page_at open_page 0) ≤ length (body (page_at open_page 0))
  pub begun : IsBegun run

-- The open page, of which there is one, has room for a framed record of so many bytes.
pub record HasRoom (lot : PagesView) (count : ℕ) : Type 0 where
  pub one : length lot.open_page ≡ 1
  pub space : used (page_at lot.open_page 0) + (4 + count) ≤ length (body (page_at lot.open_page 0))
