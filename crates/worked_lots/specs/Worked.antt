-- What the tests know of a lot between its calls.
use Rattle.std.specs.Prelude.{ℕ, ◌+◌, ◌≤◌, List, [], ◌∷◌, length, Option}
use Rattle.segment_core.specs.Segments.{PurseView}
use Rattle.flow_outside.specs.Blocks.{Blocks}
use Rattle.flow_outside.specs.Told.{IfTold}
use Rattle.page_feed.specs.Feeds.{lent}
use Rattle.lot_store.specs.LotCalls.{IsSupplied, Reads, Writes}
use Rattle.lot_store.specs.Lots.{HoldsRows, IsRewound, LotView}
use Rattle.lot_store.specs.Storage.{IsReadyAt, alone}

-- A call may work on the lot, with segments of 4,096 bytes.
abbrev pub Stands : Option Blocks → LotView → PurseView → Type 0
Stands told lot purse = IsReadyAt 4096 (alone told purse lot)

-- Where the disk tells, the lot's records are known.
abbrev pub Holds : Option Blocks → LotView → Type 0
Holds told lot = IfTold told (λ blocks. (rows : List (List ℕ)) × HoldsRows blocks lot rows)

-- There are segments for reading.
abbrev pub CanRewind : LotView → PurseView → Type 0
CanRewind lot purse = lot.feed.reach ≤ length purse.pages + length (lent lot.feed)

-- A record may be added to the lot, whose records are known.
pub record CanAdd (told : Option Blocks) (lot : LotView) (purse : PurseView) : Type 0 where
  pub reach : 5 ≤ lot.feed.reach
  pub stands : Stands told lot purse
  pub holds : Holds told lot
  pub supply : IsSupplied purse lot

-- It may be read, and its records are known.
pub record CanRead (told : Option Blocks) (lot : LotView) (purse : PurseView) : Type 0 where
  pub stands : Stands told lot purse
  pub holds : Holds told lot
  pub supply : CanRewind lot purse

-- It was read, and may be read on.
pub record ReadsOn (told now : Option Blocks) (before after : LotView) : Type 0 where
  pub ready : IsRewound after
  pub reads : (purse : PurseView) → Reads told now purse purse before after
