-- What a reader of pages holds.
use Rattle.std.specs.Prelude.{◌≡◌, ℕ, ◌+◌, ◌^◌, ◌<◌, ◌≤◌, Bool, false, List, [], ◌∷◌, length, take, drop, nat_le}
use Rattle.std.specs.Int.{from_be_bytes, w32}
use Rattle.segment_core.specs.Segments.{SegmentView}
use Rattle.paged_view.specs.Pages.{used_bytes, all_used_bytes, page_at}

-- A reader is seen as the most pages that it may hold, the pages that it holds, the oldest first, the record that it
-- gave last, and its text: the used bytes of its pages that weren't read yet.
pub record Reading : Type 0 where
  pub room : ℕ
  pub pages : List SegmentView
  pub head : List ℕ
  pub text : List ℕ

-- the length of the record that a text begins with: its first 4 bytes, the high one first
abbrev pub size_of : List ℕ → ℕ
size_of text = from_be_bytes w32 (take 4 text)

-- A text begins with a framed record that is whole.
abbrev pub HasRecord : List ℕ → Type 0
HasRecord text = 4 + size_of text ≤ length text

-- the record that a text begins with
abbrev pub first_record : List ℕ → List ℕ
first_record text = take (size_of text) (drop 4 text)

-- what stands behind it
abbrev pub after_first : List ℕ → List ℕ
after_first text = drop (4 + size_of text) text

-- the reader that gave its text's first record and moved past it
abbrev pub moved : Reading → Reading
moved r = record r { head = first_record r.text; text = after_first r.text }

-- All bytes of the oldest page were read: no more of them are left than the other pages have.
abbrev pub has_spent : List ℕ → List SegmentView → Bool
has_spent text [] = false
has_spent text (p ∷ ps) = nat_le (length text) (length (all_used_bytes ps))

-- the used bytes of pages from byte `off` of page `page` on
abbrev pub unread : List SegmentView → ℕ → ℕ → List ℕ
unread ps page off = drop off (all_used_bytes (drop page ps))

-- What is true of every reader: its list of pages, of `len`, has space reserved for its room, its place is in one of its
-- pages, or behind them, and the record that it gave last stands there, `pending` bytes long. The numbers of its place
-- are far from the end of their type.
pub record IsReader (pages : List SegmentView) (len capacity room page off pending : ℕ) : Type 0 where
  pub fits : len ≤ room
  pub reserved : room ≤ capacity
  pub among : page ≤ len
  pub within : off ≤ length (used_bytes (page_at pages page))
  pub whole : off + pending ≤ length (all_used_bytes (drop page pages))
  pub small : off + pending < 2 ^ 34

-- A record of this length stands at a byte of the used bytes of a page, and lies in that page with its length.
pub record IsHere (pages : List SegmentView) (page at len : ℕ) : Type 0 where
  pub whole : HasRecord (unread pages page at)
  pub size : len ≡ size_of (unread pages page at)
  pub within : at + 4 + len ≤ length (used_bytes (page_at pages page))
