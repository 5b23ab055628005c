-- What every call over the pages of a lot keeps, whatever it answers.
use Rattle.std.specs.Prelude.{◌≡◌, ◌⊎◌, ℕ, ◌+◌, ◌-◌, ◌<◌, List, [], ◌∷◌, ◌++◌, None, Result, length, option_to_list, replicate}
use Rattle.std.specs.Result.{result_ok}
use Rattle.segment_core.specs.Segments.{SegmentView, segment_sum}
use Rattle.flow_outside.specs.Blocks.{Blocks}
use Rattle.paged_view.specs.Pages.{used_bytes, IsSameSegment}
use Rattle.spool.specs.Spilling.{ForeignBlocksUnchanged, OwnsBlock, NoOrphanBlocks}
use Rattle.page_feed.specs.Reach.{sizes_of}
use Rattle.lot_store.specs.Stores.{PagesView, StandsWith, held, sizes, stored_sizes, text}

-- Pages that stood beside a purse stand beside what the purse is now. No block of anybody else changed, and none became
-- the lot's. No block became live that isn't the lot's, and the lot's are its own still or not live.
pub record Keeps (before after : PagesView) (purse rest : List SegmentView) (old new : Blocks) : Type 0 where
  pub stands : (size : ℕ) → StandsWith size before purse old → StandsWith size after rest new
  pub others : ForeignBlocksUnchanged before.run after.run old new
  pub owns : NoOrphanBlocks before.run after.run old new

-- The same of a call that gives the lot's blocks up: those that it couldn't free are nobody's.
pub record KeepsOthers (before after : PagesView) (purse rest : List SegmentView) (old new : Blocks) : Type 0 where
  pub stands : (size : ℕ) → StandsWith size before purse old → StandsWith size after rest new
  pub others : ForeignBlocksUnchanged before.run after.run old new
  pub fresh : (block : ℕ) → old block ≡ None → (new block ≡ None) ⊎ OwnsBlock new after.run block

-- Every segment stands in the lot or in the purse, as before.
abbrev pub MovesSegments : (before after : PagesView) (purse rest : List SegmentView) → Type 0
MovesSegments before after purse rest =
    (h : ℕ → ℕ → ℕ) → segment_sum h rest + segment_sum h (held after) ≡ segment_sum h purse + segment_sum h (held before)

-- These bytes were added behind the lot's.
abbrev pub AddsText : (before after : PagesView) (bytes : List ℕ) (old new : Blocks) → Type 0
AddsText before after bytes old new = text new after ≡ text old before ++ bytes

-- Pages of which so many bytes are used were stored behind those before, and no others.
abbrev pub AddsPages : (before after : PagesView) (sizes : List ℕ) (old new : Blocks) → Type 0
AddsPages before after sizes old new = stored_sizes new after ≡ stored_sizes old before ++ sizes

-- All pages that were stored meanwhile are full: whatever the size of segments is, each has as many used bytes as a
-- segment has behind its header of 16.
abbrev pub AddsFullPages : (before after : PagesView) (purse : List SegmentView) (old new : Blocks) → Type 0
AddsFullPages before after purse old new =
    (size : ℕ) → StandsWith size before purse old → (count : ℕ) × AddsPages before after (replicate count (size - 16)) old new

-- Each page has as many used bytes as before, and no page was added.
abbrev pub KeepsSizes : (before after : PagesView) (old new : Blocks) → Type 0
KeepsSizes before after old new = sizes new after ≡ sizes old before

-- This page is the one under way: the same segment, with the same used bytes.
pub record IsUnderWay (page : SegmentView) (open_page : List SegmentView) : Type 0 where
  pub now : SegmentView
  pub is : open_page ≡ now ∷ []
  pub same : IsSameSegment page now
  pub text : used_bytes now ≡ used_bytes page

-- What adding a page does: where some bytes of it are used, it is the one under way, and the one that was is stored. Else
-- nothing changed.
pub record PutsPage (page : SegmentView) (before after : PagesView) (old new : Blocks) : Type 0 where
  pub stored : 0 < length (used_bytes page) → AddsPages before after (sizes_of before.open_page) old new
  pub open_page : 0 < length (used_bytes page) → IsUnderWay page after.open_page
  pub unused : length (used_bytes page) ≡ 0 → (after ≡ before) × AddsPages before after [] old new

-- Bytes that were in the hand before, behind the lot's, are the lot's now, but for those that are in the hand still.
abbrev pub Trades : (before after : PagesView) (taken left : List ℕ) (old new : Blocks) → Type 0
Trades before after taken left old new = text new after ++ left ≡ text old before ++ taken

-- The segment that a call gave, where it gave one.
abbrev pub in_hand : {E : Type 0} → Result SegmentView E → List SegmentView
in_hand answer = option_to_list (result_ok answer)
