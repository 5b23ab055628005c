-- What a reader of a run does.
use Rattle.std.specs.Prelude.{◌≡◌, ℕ, ◌+◌, ◌-◌, ◌<◌, ◌≤◌, List, [], ◌∷◌, length, ⊤}
use Rattle.flow_outside.specs.Blocks.{Blocks}
use Rattle.spool.specs.Headers.{IsSound, next_of}
use Rattle.spool.specs.Runs.{Stands}
use Rattle.spool.specs.declared.place.RunReader.{RunReader}
use Rattle.spool.specs.declared.run.Run.{Run}

-- How many pages a reader has read, which is the number of its next page.
abbrev pub number_at : RunReader → ℕ
number_at reader = reader.pages - reader.left

-- What a reader has left stands, numbered from that of its next page on.
abbrev pub IsReadable : Blocks → (size : ℕ) → RunReader → Type 0
IsReadable blocks size reader = Stands blocks size (number_at reader) reader.at reader.left

-- A reader has read one page, which can be the page of that number, and goes on at the block that it names.
pub record HasRead (old new : RunReader) (page : List ℕ) : Type 0 where
  pub sound : IsSound (number_at old) page
  pub next : new.at ≡ next_of page
  pub fewer : old.left ≡ new.left + 1
  pub number : number_at new ≡ number_at old + 1
  pub pages : new.pages ≡ old.pages
  pub block : new.block ≡ old.at

-- A page was read that can't be the one of that number. The reader stands where it stood, and shows its block.
pub record IsUnread (old new : RunReader) (page : List ℕ) (block : ℕ) : Type 0 where
  pub damaged : IsSound (number_at old) page → ⊥
  pub read : block ≡ old.at
  pub shown : new.block ≡ old.at
  pub at : new.at ≡ old.at
  pub left : new.left ≡ old.left
  pub pages : new.pages ≡ old.pages

-- the block that pages name, one after the other: the first is read from this one
abbrev pub named_by : List (List ℕ) → (at : ℕ) → ℕ
named_by [] at = at
named_by (page ∷ pages) at = named_by pages (next_of page)

-- These pages can be those of a run, numbered from `number` on.
abbrev pub AreSound : List (List ℕ) → (number : ℕ) → Type 0
AreSound [] number = ⊤
AreSound (page ∷ pages) number = IsSound number page × AreSound pages (number + 1)

-- A run is damaged at a block, by what was read of it: from the run's first block on some pages were read, each of which
-- can be the one of its number and names the block of the next; the last of them names this block; and what was read there
-- can't be the page behind them.
pub record IsDamagedAt (run : Run) (block : ℕ) (page : List ℕ) : Type 0 where
  pub before : List (List ℕ)
  pub sound : AreSound before 0
  pub named : block ≡ named_by before run.first
  pub fewer : length before < run.pages
  pub damaged : IsSound (length before) page → ⊥

-- How far a reader has come through a run, by the pages that it read.
pub record HasComeTo (run : Run) (reader : RunReader) : Type 0 where
  pub before : List (List ℕ)
  pub sound : AreSound before 0
  pub named : reader.at ≡ named_by before run.first
  pub number : number_at reader ≡ length before
  pub pages : reader.pages ≡ run.pages
  pub within : reader.left ≤ reader.pages
