-- Pages of a lot that lie on a disk. The rules are this project's own.
use Rattle.std.specs.Prelude.{◌≡◌, ◌<◌, ◌≤◌, ◌⊎◌, ℕ, List, [], ◌∷◌, ◌++◌, Option, Some, None, Result, IsErrOf, ⊤}
use Rattle.flow_outside.specs.Blocks.{Blocks, IsLive}
use Rattle.flow_outside.specs.Causes.{Rose}
use Rattle.flow_outside.specs.declared.failure.StreamFault.{StreamFault}
use Rattle.flow_outside.specs.declared.failure.StreamFault.TheVariants as fault
use Rattle.segment_core.specs.Segments.{SegmentView, count_other_size}
use Rattle.spool.specs.Reading.{IsDamagedAt}
use Rattle.spool.specs.Runs.{HasBlock, IsRun, IsWritten, pages_at}
use Rattle.spool.specs.declared.run.Run.{Run}
use Rattle.spool.specs.declared.writer.RunWriter.{RunWriter}

-- The spilled pages, in order: those of the run, and none where there is no run.
abbrev pub spilled : Blocks → Option RunWriter → List (List ℕ)
spilled blocks None = []
spilled blocks (Some run) = pages_at blocks run.first run.pages

-- The run's pages stand, each of `size` bytes.
abbrev pub IsSpilled : Blocks → (size : ℕ) → Option RunWriter → Type 0
IsSpilled blocks size None = ⊤
IsSpilled blocks size (Some run) = IsWritten blocks size run

-- A run has a page at least.
abbrev pub IsBegun : Option RunWriter → Type 0
IsBegun None = ⊤
IsBegun (Some run) = 0 < run.pages

-- This block is one of the run's.
abbrev pub OwnsBlock : Blocks → Option RunWriter → (block : ℕ) → Type 0
OwnsBlock blocks None block = ⊥
OwnsBlock blocks (Some run) block = HasBlock blocks run.first run.pages block

-- Whatever block was live and wasn't the run's is as it was, and isn't the run's afterwards either.
abbrev pub ForeignBlocksUnchanged : (before after : Option RunWriter) → (old new : Blocks) → Type 0
ForeignBlocksUnchanged before after old new =
    (block : ℕ) → IsLive old block → (OwnsBlock old before block → ⊥) → (new block ≡ old block) × (OwnsBlock new after block → ⊥)

-- This block isn't live, or it is one of the run's.
abbrev pub IsFreeOrOwn : Blocks → Option RunWriter → (block : ℕ) → Type 0
IsFreeOrOwn blocks run block = (blocks block ≡ None) ⊎ OwnsBlock blocks run block

-- No block became live that isn't the run's, and of those that were the run's each is so still or isn't live.
abbrev pub NoOrphanBlocks : (before after : Option RunWriter) → (old new : Blocks) → Type 0
NoOrphanBlocks before after old new = (block : ℕ) → IsFreeOrOwn old before block → IsFreeOrOwn new after block

-- A page was spilled behind the others.
pub record IsLonger (size : ℕ) (before after : Option RunWriter) (page : List ℕ) (old new : Blocks) : Type 0 where
  pub stands : IsSpilled new size after
  pub pages : spilled new after ≡ spilled old before ++ page ∷ []
  pub others : ForeignBlocksUnchanged before after old new
  pub owns : NoOrphanBlocks before after old new

-- The spilled pages are what they were.
pub record IsUnchanged (size : ℕ) (before after : Option RunWriter) (old new : Blocks) : Type 0 where
  pub stands : IsSpilled new size after
  pub pages : spilled new after ≡ spilled old before
  pub others : ForeignBlocksUnchanged before after old new
  pub owns : NoOrphanBlocks before after old new

-- The count of faults never falls, a call that only writes answers `Spill` only where it rose, and never `Damaged`.
pub record HasWriteCause {T : Type 0} (before now : ℕ) (answer : Result T StreamFault) : Type 0 where
  pub later : before ≤ now
  pub spill : IsErrOf answer fault.Spill → Rose before now
  pub damaged : (block : ℕ) → IsErrOf answer (fault.Damaged block) → ⊥

-- No block of the run is live.
abbrev pub FreesBlocks : Option RunWriter → (old new : Blocks) → Type 0
FreesBlocks run old new = (block : ℕ) → OwnsBlock old run block → new block ≡ None

-- A run stands, and its pages have as many bytes as the segments of a purse, all of which have one size.
abbrev pub StandsAlone : Run → (purse : List SegmentView) → Blocks → Type 0
StandsAlone run purse blocks = (size : ℕ) × (count_other_size size purse ≡ 0) × IsRun blocks size run

-- A run is damaged at this block, by what was read there.
abbrev pub IsDamagedIn : Option RunWriter → (block : ℕ) → Type 0
IsDamagedIn None block = ⊥
IsDamagedIn (Some run) block = (page : List ℕ) × IsDamagedAt (record { first = run.first; pages = run.pages }) block page
