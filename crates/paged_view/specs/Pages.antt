-- Pages: segments that hold framed records behind a header. The rule is this project's own.
use Rattle.std.specs.Prelude.{◌≡◌, ℕ, ◌<◌, List, [], length, take, drop, slice_index_or}
use Rattle.std.specs.List.{flat_map}
use Rattle.std.specs.Int.{from_be_bytes, w32}
use Rattle.segment_core.specs.Segments.{SegmentView}
use Rattle.paged_view.specs.declared.page.TheConstants.{HEADER_SIZE}

-- A page's header has the number of its used bytes (4 bytes, the high one first), the page's number in its run (4)
-- and the next page's block (8). Its body is what stands behind.
abbrev pub body : SegmentView → List ℕ
body p = drop HEADER_SIZE p.bytes

-- the number of used bytes that the header says
abbrev pub used : SegmentView → ℕ
used p = from_be_bytes w32 (take 4 p.bytes)

-- the used bytes of the body: all of them where the header says more
abbrev pub used_bytes : SegmentView → List ℕ
used_bytes p = take (used p) (body p)

-- the bodies of pages, one after the other: a record goes on in the next page where a page ends
abbrev pub bodies : List SegmentView → List ℕ
bodies ps = flat_map body ps

-- the used bytes of pages, one after the other
abbrev pub all_used_bytes : List SegmentView → List ℕ
all_used_bytes ps = flat_map used_bytes ps

-- what stands where there is no page
abbrev pub no_page : SegmentView
no_page = record { id = 0; bytes = [] }

-- the page at a place from 0
abbrev pub page_at : List SegmentView → ℕ → SegmentView
page_at ps i = slice_index_or ps i no_page

-- The segment is the one that it was, with as many bytes.
pub record IsSameSegment (old new : SegmentView) : Type 0 where
  pub id : new.id ≡ old.id
  pub len : length new.bytes ≡ length old.bytes

-- The page's header says that so many of its bytes are used, and some are.
pub record HasUsed (count : ℕ) (page : SegmentView) : Type 0 where
  pub is : used page ≡ count
  pub some : 0 < used page
