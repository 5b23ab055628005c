use Rattle.std.specs.Prelude.{◌≡◌, ◌≢◌, ℕ, List, length, Option, Some, None}

-- The blocks of a disk: a block is not live, or it is live with open bytes, or it is live with these bytes.
abbrev pub Blocks : Type 0
Blocks = ℕ → Option (Option (List ℕ))

-- This block is live.
abbrev pub IsLive : Blocks → ℕ → Type 0
IsLive blocks block = blocks block ≢ None

-- This block is live, and holds a page of this length.
pub record HoldsPage (blocks : Blocks) (block size : ℕ) : Type 0 where
  pub page : List ℕ
  pub held : blocks block ≡ Some (Some page)
  pub sized : length page ≡ size

-- Every block but this one is as it was.
abbrev pub OtherBlocksStand : (old new : Blocks) → ℕ → Type 0
OtherBlocksStand old new block = (k : ℕ) → k ≢ block → new k ≡ old k

-- This block is now so, and every other is as it was.
pub record Becomes (block : ℕ) (now : Option (Option (List ℕ))) (old new : Blocks) : Type 0 where
  pub is : new block ≡ now
  pub others : OtherBlocksStand old new block

-- This block, which wasn't live, is now live with open bytes, and every other is as it was.
pub record IsGiven (block : ℕ) (old new : Blocks) : Type 0 where
  pub fresh : old block ≡ None
  pub becomes : Becomes block (Some None) old new

-- A disk that tells goes on telling, and `change` is what it did to its blocks. One that doesn't tell goes on not
-- telling.
abbrev pub BothTold : (old new : Option Blocks) → (change : Blocks → Blocks → Type 0) → Type 0
BothTold None None change = Unit {0}
BothTold None (Some new) change = ⊥
BothTold (Some old) None change = ⊥
BothTold (Some old) (Some new) change = change old new
