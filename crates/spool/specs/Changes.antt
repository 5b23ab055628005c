-- What the calls of this crate do to a disk's blocks.
use Rattle.std.specs.Prelude.{◌≡◌, ◌≢◌, ◌↔◌, ◌⊎◌, ℕ, List, [], ◌∷◌, ◌++◌, Some, None}
use Rattle.flow_outside.specs.Blocks.{Blocks, IsLive, OtherBlocksStand}
use Rattle.spool.specs.Runs.{HasBlock, IsWritten, Stands, pages_at}
use Rattle.spool.specs.declared.run.Run.{Run}
use Rattle.spool.specs.declared.writer.RunWriter.{RunWriter}

-- A page was put into the block `end`, and `next`, which wasn't live, is now live with open bytes. Every other block
-- is as it was.
pub record IsAppended (end next : ℕ) (page : List ℕ) (old new : Blocks) : Type 0 where
  pub fresh : old next ≡ None
  pub opened : new next ≡ Some None
  pub put : new end ≡ Some (Some page)
  pub others : (block : ℕ) → block ≢ end → block ≢ next → new block ≡ old block

-- What a writer had pushed still stands, with one page behind it, and its blocks are those that it had and one that
-- wasn't live.
pub record IsPushed (size : ℕ) (before after : RunWriter) (page : List ℕ) (old new : Blocks) : Type 0 where
  pub written : IsWritten new size after
  pub pages : pages_at new after.first after.pages ≡ pages_at old before.first before.pages ++ page ∷ []
  pub blocks : (block : ℕ) → HasBlock new after.first after.pages block →
      HasBlock old before.first before.pages block ⊎ (block ≡ after.end)

-- What a writer had pushed still stands, in the same blocks.
pub record IsKept (size : ℕ) (writer : RunWriter) (old new : Blocks) : Type 0 where
  pub written : IsWritten new size writer
  pub pages : pages_at new writer.first writer.pages ≡ pages_at old writer.first writer.pages
  pub blocks : (block : ℕ) → HasBlock new writer.first writer.pages block ↔ HasBlock old writer.first writer.pages block

-- A page wasn't put: its block is live, and every other is as it was.
pub record LeavesOpen (end : ℕ) (old new : Blocks) : Type 0 where
  pub live : IsLive new end
  pub others : OtherBlocksStand old new end

-- The block `next` was given for the page behind one that goes to `end`: both are live, and they aren't one block.
pub record IsReady (end next : ℕ) (blocks : Blocks) : Type 0 where
  pub live : IsLive blocks end
  pub given : IsLive blocks next
  pub apart : next ≢ end

-- A page wasn't put into `end`, and `next` isn't live any more. Every other block is as it was.
pub record IsWithdrawn (end next : ℕ) (old new : Blocks) : Type 0 where
  pub freed : new next ≡ None
  pub live : IsLive new end
  pub others : (block : ℕ) → block ≢ end → block ≢ next → new block ≡ old block

-- Every block that isn't the run's is as it was.
abbrev pub ForeignBlocksUnchanged : Run → (old new : Blocks) → Type 0
ForeignBlocksUnchanged run old new =
    (block : ℕ) → (HasBlock old run.first run.pages block → ⊥) → new block ≡ old block

-- No block of the run is live.
abbrev pub IsFreed : Run → (old new : Blocks) → Type 0
IsFreed run old new = (block : ℕ) → HasBlock old run.first run.pages block → new block ≡ None

-- Each block of the run is as it was, or isn't live.
abbrev pub IsPartlyFreed : Run → (old new : Blocks) → Type 0
IsPartlyFreed run old new =
    (block : ℕ) → HasBlock old run.first run.pages block → (new block ≡ old block) ⊎ (new block ≡ None)

-- Every block is as it was.
abbrev pub AllStand : (old new : Blocks) → Type 0
AllStand old new = (block : ℕ) → new block ≡ old block

-- A run is being freed: of its blocks those of the chain that is left stand as they did, and no other is live. Every
-- block that isn't the run's is as it was.
pub record IsBeingFreed (run : Run) (size number at left : ℕ) (old new : Blocks) : Type 0 where
  pub stands : Stands new size number at left
  pub among : (block : ℕ) → HasBlock new at left block → HasBlock old run.first run.pages block
  pub freed : (block : ℕ) → HasBlock old run.first run.pages block → (new block ≡ None) ⊎ HasBlock new at left block
  pub kept : (block : ℕ) → HasBlock new at left block → new block ≡ old block
  pub others : ForeignBlocksUnchanged run old new
