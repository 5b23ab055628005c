-- What the header of a run's page says. The rule is this project's own.
use Rattle.std.specs.Prelude.{◌≡◌, ℕ, ◌%◌, ◌^◌, ◌<◌, ◌≤◌, List, ◌++◌, length, take, drop}
use Rattle.std.specs.Int.{from_be_bytes, to_be_bytes, w32, w64}
use Rattle.segment_core.specs.Segments.{SegmentView}
use Rattle.paged_view.specs.Pages.{body, used}

-- The bytes of a page on a disk, which keeps no id, seen as a page.
abbrev pub as_page : List ℕ → SegmentView
as_page bytes = record { id = 0; bytes = bytes }

-- The page's number in its run, as its header says.
abbrev pub number_of : List ℕ → ℕ
number_of page = from_be_bytes w32 (take 4 (drop 4 page))

-- The block of the next page, as its header says.
abbrev pub next_of : List ℕ → ℕ
next_of page = from_be_bytes w64 (take 8 (drop 8 page))

-- The number that stands in the header of page `number` of a run, counted from 0.
abbrev pub header_number : ℕ → ℕ
header_number number = number % 2 ^ 32

-- The page with this number and this block in its header, behind the number of used bytes.
abbrev pub with_header : (page : List ℕ) (number block : ℕ) → List ℕ
with_header page number block =
    take 4 page ++ (to_be_bytes w32 number ++ (to_be_bytes w64 block ++ drop 16 page))

-- The page as page `number` of a run, whose next page goes to the block `next`.
abbrev pub stamped : (page : List ℕ) (number next : ℕ) → List ℕ
stamped page number next = with_header page (header_number number) next

-- These bytes may be page `number` of a run: some of its bytes are used and no more than stand behind its header, and
-- the header has that number.
pub record IsSound (number : ℕ) (page : List ℕ) : Type 0 where
  pub some : 0 < used (as_page page)
  pub within : used (as_page page) ≤ length (body (as_page page))
  pub numbered : number_of page ≡ header_number number
