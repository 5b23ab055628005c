-- What the public calls over one lot say beside what they preserve. The rules are this project's own.
use Rattle.std.specs.Prelude.{◌≡◌, ℕ, ◌+◌, ◌<◌, ◌≤◌, Bool, true, List, [], ◌∷◌, length, Option, Some, None, Ok, Result, IfSome, IsErrOf, MatchResult, is_some}
use Rattle.segment_core.specs.Segments.{PurseView, SegmentView}
use Rattle.flow_outside.specs.Blocks.{Blocks}
use Rattle.flow_outside.specs.Causes.{HasStreamCause}
use Rattle.flow_outside.specs.declared.failure.StreamFault.{StreamFault}
use Rattle.flow_outside.specs.declared.failure.StreamFault.TheVariants as fault
use Rattle.flow_types.specs.Records.{framed}
use Rattle.paged_view.specs.Pages.{used_bytes}
use Rattle.page_feed.specs.Feeds.{block_of, lent, most_left}
use Rattle.spool.specs.declared.writer.RunWriter.{RunWriter}
use Rattle.lot_store.specs.Lots.{IsRewound, LotView, pages_of}
use Rattle.lot_store.specs.LotKeeping.{AddsFullPages, AddsRow, AddsText, KeepsRows, PutsPage}
use Rattle.lot_store.specs.Storage.{Preserves, alone}

-- A call writes one lot, and one that only reads it. Both are `Preserves` of the lot with its purse and its disk.
abbrev pub Writes : (told now : Option Blocks) (purse rest : PurseView) (lot lot_now : LotView) → Type 0
Writes told now purse rest lot lot_now = Preserves (alone told purse lot) (alone now rest lot_now) (0 ∷ []) (0 ∷ []) true

abbrev pub Reads : (told now : Option Blocks) (purse rest : PurseView) (lot lot_now : LotView) → Type 0
Reads told now purse rest lot lot_now = Preserves (alone told purse lot) (alone now rest lot_now) (0 ∷ []) [] true

-- There is a segment to write into: one in the purse, one that the lot was lent, or its open page.
abbrev pub IsSupplied : PurseView → LotView → Type 0
IsSupplied purse lot = 0 < length purse.pages + (length (lent lot.feed) + length (pages_of lot).open_page)

-- how many pages of a lot aren't in segments
abbrev pub spilled_count : Option RunWriter → ℕ
spilled_count None = 0
spilled_count (Some run) = run.pages

-- A record was appended: its framed bytes stand behind the lot's, all pages that were stored meanwhile are full, and where
-- the lot stood for records, this one stands behind them.
pub record AppendsRow (before after : LotView) (purse : List SegmentView) (row : List ℕ) (old new : Blocks) : Type 0 where
  pub bytes : AddsText before after (framed row) old new
  pub full : AddsFullPages before after purse old new
  pub rows : AddsRow before after purse row old new

-- A page was appended: its used bytes stand behind the lot's, and it is the open page, where some bytes of it are used.
pub record AppendsPage (page : SegmentView) (before after : LotView) (old new : Blocks) : Type 0 where
  pub bytes : AddsText before after (used_bytes page) old new
  pub pages : PutsPage page before after old new

-- A lot stands for the bytes and the records for which it stood.
pub record KeepsContents (before after : LotView) (old new : Blocks) : Type 0 where
  pub bytes : AddsText before after [] old new
  pub rows : KeepsRows before after old new

-- It is about to be read: nothing is shown, and no page of its run was read.
pub record IsAtFirst (lot : LotView) : Type 0 where
  pub ready : IsRewound lot
  pub none_shown : lot.feed.shown ≡ None
  pub none_read : block_of lot.feed.run ≡ 0
  pub none_before : lot.read_last ≡ 0

-- After an advance it may be advanced again, and shows a record exactly where the answer was that there is one. What was
-- read last is its reader's block.
pub record IsShowing (answer : Result Bool StreamFault) (lot : LotView) : Type 0 where
  pub ready : IsRewound lot
  pub shown : MatchResult answer (λ more. is_some lot.feed.shown ≡ more) (λ _. lot.feed.shown ≡ None)
  pub read : IfSome lot.feed.run (λ reader. lot.read_last ≡ reader.block)

-- No more records are left than before, and fewer where one is shown.
pub record GetsShorter (answer : Result Bool StreamFault) (before after : LotView) : Type 0 where
  pub later : most_left after.feed ≤ most_left before.feed
  pub falls : answer ≡ Ok true → most_left after.feed < most_left before.feed

-- Why reading a lot ended early: `Spill` only where the disk's count rose, `Damaged` only over a disk that doesn't tell, and
-- then with the block that was read last.
pub record HasReadCause (before now : ℕ) (told : Option Blocks) (lot : LotView) (answer : Result Bool StreamFault) : Type 0 where
  pub cause : HasStreamCause before now told answer
  pub damaged : (block : ℕ) → IsErrOf answer (fault.Damaged block) → block ≡ block_of lot.feed.run
  pub known : (block : ℕ) → IsErrOf answer (fault.Damaged block) → block ≡ lot.read_last

-- The disk tells what it told and has given as many blocks. Of a lot with no spilled page it isn't called at all, and so
-- never the cause of a fault.
pub record LeavesDisk {D : Type 0} (disk disk_now : D) (told now : Option Blocks) (given given_now spilled : ℕ) (answer : Result Bool StreamFault) : Type 0 where
  pub told_still : now ≡ told
  pub counted : given_now ≡ given
  pub quiet : spilled ≡ 0 → (disk_now ≡ disk) × (IsErrOf answer fault.Spill → ⊥)
