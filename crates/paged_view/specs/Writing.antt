-- What a writer of pages holds.
use Rattle.std.specs.Prelude.{ℕ, ◌+◌, ◌-◌, ◌<◌, ◌≤◌, Bool, false, List, [], ◌∷◌, ◌++◌, length, take, drop, nat_le}
use Rattle.segment_core.specs.Segments.{SegmentView}
use Rattle.segment_core.specs.declared.segment.TheConstants.{LARGEST_SIZE}
use Rattle.paged_view.specs.Pages.{body, bodies, page_at}

-- A writer is seen as the most pages that it may hold, the pages that it holds, the oldest first, and its text: the
-- framed bytes that it was given and that weren't taken out yet. They stand in the bodies of its pages from the first
-- page on, with no gap.
pub record Writing : Type 0 where
  pub room : ℕ
  pub pages : List SegmentView
  pub text : List ℕ

-- how many bytes its pages have room for
abbrev pub free : Writing → ℕ
free w = length (bodies w.pages) - length w.text

-- The oldest page is full: the text reaches that page's end.
abbrev pub has_full : List ℕ → List SegmentView → Bool
has_full text [] = false
has_full text (p ∷ ps) = nat_le (length (body p)) (length text)

-- the text of pages of which the first `full` are full and the next one has `fill` bytes
abbrev pub text_in : List SegmentView → ℕ → ℕ → List ℕ
text_in ps full fill = bodies (take full ps) ++ take fill (bodies (drop full ps))

-- What is true of every writer: its list of pages, of `len`, has space reserved for its room, and the page under way
-- isn't full: of page `full` the first `fill` bytes are written, and those before it are full.
pub record IsWriter (pages : List SegmentView) (len capacity room full fill : ℕ) : Type 0 where
  pub fits : len ≤ room
  pub reserved : room ≤ capacity
  pub among : full ≤ len
  pub under_way : 0 < fill → fill < length (body (page_at pages full))
  pub small : fill ≤ LARGEST_SIZE

-- the page with these bytes over its own from place `at` on
abbrev pub written : SegmentView → ℕ → List ℕ → SegmentView
written p at bytes = record {
  id = p.id;
  bytes = take at p.bytes ++ (bytes ++ drop (at + length bytes) p.bytes);
}
