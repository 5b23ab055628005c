-- Runs on a disk: pages of which each names the next one's block. The rules are this project's own.
use Rattle.std.specs.Prelude.{◌≡◌, ◌⊎◌, ℕ, zero, suc, ◌+◌, List, [], ◌∷◌, Option, Some, None}
use Rattle.std.specs.List.{flat_map}
use Rattle.flow_outside.specs.Blocks.{Blocks, IsLive, HoldsPage}
use Rattle.paged_view.specs.Pages.{used_bytes}
use Rattle.spool.specs.Headers.{as_page, next_of, IsSound}
use Rattle.spool.specs.declared.run.Run.{Run}
use Rattle.spool.specs.declared.writer.RunWriter.{RunWriter}

-- The bytes of a block, and none where it has no page.
abbrev pub bytes_of : Option (Option (List ℕ)) → List ℕ
bytes_of None = []
bytes_of (Some None) = []
bytes_of (Some (Some page)) = page

-- The page in a block.
abbrev pub page_in : Blocks → ℕ → List ℕ
page_in blocks block = bytes_of (blocks block)

-- The block that the page in a block names as the next one's.
abbrev pub next_in : Blocks → ℕ → ℕ
next_in blocks block = next_of (page_in blocks block)

-- The pages of a chain of `count` pages from a block on.
abbrev pub pages_at : Blocks → (at count : ℕ) → List (List ℕ)
pages_at blocks at zero = []
pages_at blocks at (suc count) = page_in blocks at ∷ pages_at blocks (next_in blocks at) count

-- The block behind the last page of a chain, which is live and has no page yet.
abbrev pub end_at : Blocks → (at count : ℕ) → ℕ
end_at blocks at zero = at
end_at blocks at (suc count) = end_at blocks (next_in blocks at) count

-- This block is one of a chain's: that of one of its pages, or the one behind them.
abbrev pub HasBlock : Blocks → (at count block : ℕ) → Type 0
HasBlock blocks at zero block = block ≡ at
HasBlock blocks at (suc count) block = (block ≡ at) ⊎ HasBlock blocks (next_in blocks at) count block

-- The first of a chain's pages stands: its block holds page `number` of a run, of `size` bytes, and that block isn't
-- one of those behind it.
pub record StandsFirst (blocks : Blocks) (size number at behind : ℕ) : Type 0 where
  pub holds : HoldsPage blocks at size
  pub sound : IsSound number (page_in blocks at)
  pub apart : HasBlock blocks (next_in blocks at) behind at → ⊥

-- A chain stands: `count` pages of `size` bytes, numbered from `number` on, in blocks of which none stands twice, and
-- the block behind them is live.
abbrev pub Stands : Blocks → (size number at count : ℕ) → Type 0
Stands blocks size number at zero = IsLive blocks at
Stands blocks size number at (suc count) =
    StandsFirst blocks size number at count × Stands blocks size (number + 1) (next_in blocks at) count

-- A run stands: its pages are numbered from 0 on.
abbrev pub IsRun : Blocks → (size : ℕ) → Run → Type 0
IsRun blocks size run = Stands blocks size 0 run.first run.pages

-- What a writer has pushed stands as a run, and the block for its next page is the one behind it.
pub record IsWritten (blocks : Blocks) (size : ℕ) (writer : RunWriter) : Type 0 where
  pub stands : Stands blocks size 0 writer.first writer.pages
  pub behind : end_at blocks writer.first writer.pages ≡ writer.end

-- The used bytes of pages, one after the other.
abbrev pub joined : List (List ℕ) → List ℕ
joined pages = flat_map (λ page. used_bytes (as_page page)) pages
