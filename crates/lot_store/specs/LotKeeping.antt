-- What the calls over a lot keep and add.
use Rattle.std.specs.Prelude.{◌≡◌, ◌⊎◌, ℕ, ◌+◌, ◌-◌, ◌/◌, ◌≤◌, List, [], ◌∷◌, ◌++◌, None, length, replicate}
use Rattle.segment_core.specs.Segments.{SegmentView, segment_sum}
use Rattle.flow_outside.specs.Blocks.{Blocks}
use Rattle.spool.specs.Spilling.{ForeignBlocksUnchanged, OwnsBlock, NoOrphanBlocks}
use Rattle.lot_store.specs.Keeping.{AddsPages, PutsPage as PutsInto}
use Rattle.lot_store.specs.Lots.{HoldsRows, LotView, StandsWith, held, pages_of, text}

-- A lot that stood beside a purse stands beside what the purse is now. No block of anybody else changed, and none became
-- the lot's. No block became live that isn't the lot's, and the lot's are its own still or not live.
pub record Keeps (before after : LotView) (purse rest : List SegmentView) (old new : Blocks) : Type 0 where
  pub stands : (size : ℕ) → StandsWith size before purse old → StandsWith size after rest new
  pub others : ForeignBlocksUnchanged before.stored.run after.stored.run old new
  pub owns : NoOrphanBlocks before.stored.run after.stored.run old new

-- The same of a call that gives the lot's blocks up: those that it couldn't free are nobody's.
pub record KeepsOthers (before after : LotView) (purse rest : List SegmentView) (old new : Blocks) : Type 0 where
  pub stands : (size : ℕ) → StandsWith size before purse old → StandsWith size after rest new
  pub others : ForeignBlocksUnchanged before.stored.run after.stored.run old new
  pub fresh : (block : ℕ) → old block ≡ None → (new block ≡ None) ⊎ OwnsBlock new after.stored.run block

-- Every segment stands in the lot or in the purse, as before.
abbrev pub MovesSegments : (before after : LotView) (purse rest : List SegmentView) → Type 0
MovesSegments before after purse rest =
    (h : ℕ → ℕ → ℕ) → segment_sum h rest + segment_sum h (held after) ≡ segment_sum h purse + segment_sum h (held before)

-- These bytes were added behind the lot's.
abbrev pub AddsText : (before after : LotView) (bytes : List ℕ) (old new : Blocks) → Type 0
AddsText before after bytes old new = text new after ≡ text old before ++ bytes

-- All pages that were stored meanwhile are full: whatever the size of segments is, each has as many used bytes as a
-- segment has behind its header of 16.
abbrev pub AddsFullPages : (before after : LotView) (purse : List SegmentView) (old new : Blocks) → Type 0
AddsFullPages before after purse old new =
    (size : ℕ) → StandsWith size before purse old
    → (count : ℕ) × AddsPages (pages_of before) (pages_of after) (replicate count (size - 16)) old new

-- The page is the one under way, and the one that was is stored; nothing changed where no byte of it is used.
abbrev pub PutsPage : (page : SegmentView) (before after : LotView) (old new : Blocks) → Type 0
PutsPage page before after old new = PutsInto page (pages_of before) (pages_of after) old new

-- The lot's records are those that it had.
abbrev pub KeepsRows : (before after : LotView) (old new : Blocks) → Type 0
KeepsRows before after old new = (rows : List (List ℕ)) → HoldsRows old before rows → HoldsRows new after rows

-- This record stands behind those that the lot had. So it is where the reach is at least the most pages that a record of
-- its length touches: wherever it begins, that is one more than its framed bytes fill, a page begun counted whole.
abbrev pub AddsRow : (before after : LotView) (purse : List SegmentView) (row : List ℕ) (old new : Blocks) → Type 0
AddsRow before after purse row old new =
    (size : ℕ) → StandsWith size before purse old
    → (rows : List (List ℕ)) → HoldsRows old before rows
    → (4 + length row + (size - 16) - 1) / (size - 16) + 1 ≤ before.feed.reach
    → HoldsRows new after (rows ++ row ∷ [])
