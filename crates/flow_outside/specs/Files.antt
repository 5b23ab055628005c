use Rattle.std.specs.Prelude.{◌≡◌, ℕ, ◌+◌, ◌≤◌, List, length, Option, Some, None, IsSomeAnd}
use Rattle.flow_outside.specs.Readers.{Readers, Lives, OthersStand}

-- The files of a shelf: the bytes of each name, and none where no file has it.
abbrev pub Files : Type 0
Files = List ℕ → Option (List ℕ)

-- The bytes of a name: none where the shelf doesn't tell, and none where no file has the name.
abbrev pub bytes_of : Option Files → List ℕ → Option (List ℕ)
bytes_of None name = None
bytes_of (Some files) name = files name

-- The shelf tells that no file has this name.
abbrev pub IsAbsent : Option Files → List ℕ → Type 0
IsAbsent None name = ⊥
IsAbsent (Some files) name = files name ≡ None

-- A claim about the bytes of a name, which binds only where the shelf tells: then a file has the name, and the claim
-- holds of its bytes.
abbrev pub IfFileTold : Option Files → List ℕ → (List ℕ → Type 0) → Type 0
IfFileTold None name p = Unit {0}
IfFileTold (Some files) name p = IsSomeAnd (files name) p

-- These bytes are no more than `limit`, and where the shelf tells, the file is there and has these bytes and no more.
pub record ReadsAll (told : Option Files) (name : List ℕ) (limit : ℕ) (bytes : List ℕ) : Type 0 where
  pub whole : IfFileTold told name (λ all. bytes ≡ all)
  pub within : length bytes ≤ limit

-- At most one reader was started and not read to its end. All that lived before live on as they did.
pub record LeavesAtMostOne (old new : Readers) (living_old living_new : ℕ) : Type 0 where
  pub left : ℕ
  pub others : OthersStand old new left
  pub kept : (k : ℕ) → Lives old k → new k ≡ old k
  pub no_fewer : living_old ≤ living_new
  pub one_more : living_new ≤ living_old + 1
