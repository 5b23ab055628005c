-- What is true of every feed, and what the steps of an advance keep.
use Rattle.std.specs.Prelude.{◌≡◌, ◌⊎◌, ℕ, ◌+◌, ◌<◌, ◌≤◌, false, List, [], length, Option}
use Rattle.segment_core.specs.Segments.{count_other_size, segment_sum}
use Rattle.flow_outside.specs.Blocks.{Blocks}
use Rattle.flow_outside.specs.Told.{IfTold}
use Rattle.paged_view.specs.Pages.{all_used_bytes}
use Rattle.paged_view.specs.Reading.{HasRecord, Reading, has_spent}
use Rattle.spool.specs.declared.place.RunReader.{RunReader}
use Rattle.page_feed.specs.Feeds.{FeedView, HasBlockLeft, HasLeft, IsLeftReadable, kept_in, open_page_in, lent, most_left, pages_to_read, sizes_left}

-- What is true of every feed. The pages in the reader are the first kept ones, then those of the run, and then the page
-- under way: so a page goes to the reader only where none is left of those that stand before it. Each list of so many
-- segments has space reserved for all that it may have to take.
pub record IsFeed (room reach : ℕ) (reader : Reading) (of_kept of_run : ℕ) (run : Option RunReader) (passed passed_capacity ahead ahead_capacity open_page last_capacity blank blank_capacity : ℕ) : Type 0 where
  pub seat : reader.room ≡ reach
  pub counts : of_kept + of_run ≤ length reader.pages
  pub within : length reader.pages ≤ reach
  pub text : length reader.text ≤ length (all_used_bytes reader.pages)
  pub kept_first : 0 < of_run → ahead ≡ 0
  pub ahead_out : of_kept + of_run < length reader.pages → ahead ≡ 0
  pub run_out : of_kept + of_run < length reader.pages → pages_to_read run ≡ 0
  pub one : length reader.pages + open_page ≤ of_kept + of_run + 1
  pub kept : passed + (of_kept + ahead) ≤ room
  pub lent : of_run + blank ≤ reach
  pub passed_space : room ≤ passed_capacity
  pub ahead_space : room ≤ ahead_capacity
  pub last_space : 1 ≤ last_capacity
  pub blank_space : reach ≤ blank_capacity

-- No page is left to be given to the reader.
pub record IsGivenOut (f : FeedView) : Type 0 where
  pub ahead : f.ahead ≡ []
  pub run : pages_to_read f.run ≡ 0
  pub open_page : f.open_page ≡ []

-- What callers of the steps know of a feed: the open page is read last, and there are no more pages in the reader
-- than a record touches.
pub record IsFed (f : FeedView) : Type 0 where
  pub counts : f.of_kept + f.of_run ≤ length f.reader.pages
  pub within : length f.reader.pages ≤ f.reach
  pub text : length f.reader.text ≤ length (all_used_bytes f.reader.pages)
  pub given_out : f.of_kept + f.of_run < length f.reader.pages → IsGivenOut f

-- How many pages are left to be given to the reader.
abbrev pub pages_to_give : FeedView → ℕ
pages_to_give f = length f.ahead + (pages_to_read f.run + length f.open_page)

-- Pages that were read were put away: the same bytes are left, and every page is still there.
pub record PutsAway (before after : FeedView) : Type 0 where
  pub room : after.room ≡ before.room
  pub reach : after.reach ≡ before.reach
  pub text : after.reader.text ≡ before.reader.text
  pub ahead : after.ahead ≡ before.ahead
  pub run : after.run ≡ before.run
  pub under_way : after.open_page ≡ before.open_page
  pub sizes : (blocks : Blocks) → sizes_left blocks after ≡ sizes_left blocks before
  pub kept : kept_in after ≡ kept_in before
  pub open_page : open_page_in after ≡ open_page_in before
  pub weights : (h : ℕ → ℕ → ℕ) → segment_sum h (lent after) ≡ segment_sum h (lent before)

-- What every step of an advance keeps, whatever it answers: the segments stand in their three places, what was left is
-- left, and no more is left than before.
pub record GoesOn (told : Option Blocks) (before after : FeedView) : Type 0 where
  pub room : after.room ≡ before.room
  pub reach : after.reach ≡ before.reach
  pub kept : kept_in after ≡ kept_in before
  pub open_page : open_page_in after ≡ open_page_in before
  pub weights : (h : ℕ → ℕ → ℕ) → segment_sum h (lent after) ≡ segment_sum h (lent before)
  pub less : most_left after ≤ most_left before
  pub rows : IfTold told (λ blocks. (rows : List (List ℕ)) → HasLeft blocks before rows → HasLeft blocks after rows)
  pub among : IfTold told (λ blocks. (block : ℕ) → HasBlockLeft blocks after.run block → HasBlockLeft blocks before.run block)
  pub readable : IfTold told (λ blocks. (size : ℕ) → count_other_size size (lent before) ≡ 0
      → IsLeftReadable blocks size before.run → IsLeftReadable blocks size after.run)

-- What an advance keeps, whatever it answers: the kept pages, the open page and the lent segments, and of the run, what was
-- left. No block is left that wasn't left before.
pub record KeepsPages (told : Option Blocks) (before after : FeedView) : Type 0 where
  pub room : after.room ≡ before.room
  pub reach : after.reach ≡ before.reach
  pub kept : kept_in after ≡ kept_in before
  pub open_page : open_page_in after ≡ open_page_in before
  pub weights : (h : ℕ → ℕ → ℕ) → segment_sum h (lent after) ≡ segment_sum h (lent before)
  pub among : IfTold told (λ blocks. (block : ℕ) → HasBlockLeft blocks after.run block → HasBlockLeft blocks before.run block)
  pub readable : IfTold told (λ blocks. (size : ℕ) → count_other_size size (lent before) ≡ 0
      → IsLeftReadable blocks size before.run → IsLeftReadable blocks size after.run)

-- Some records are known to be left, where the disk tells.
abbrev pub IsKnown : Option Blocks → FeedView → Type 0
IsKnown told f = IfTold told (λ blocks. (rows : List (List ℕ)) × HasLeft blocks f rows)

-- The oldest page in the reader can't be put away: bytes of it weren't read yet, or it is the open page, or there
-- is none.
abbrev pub IsPutAway : FeedView → Type 0
IsPutAway f = (has_spent f.reader.text f.reader.pages ≡ false) ⊎ (f.of_kept + f.of_run ≡ 0)

-- The reader has no whole record, and can't be given a page: none is left, or it has as many as a record touches.
pub record IsStuck (f : FeedView) : Type 0 where
  pub used_bytes : HasRecord f.reader.text → ⊥
  pub put_away : IsPutAway f
  pub refused : IsGivenOut f ⊎ (length f.reader.pages ≡ f.reach)
  pub fed : IsFed f
