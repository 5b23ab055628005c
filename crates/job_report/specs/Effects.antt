use Rattle.std.specs.Prelude.{◌≡◌, ◌⊎◌, ℕ, List, Option}
use Rattle.flow_outside.specs.Causes.{Rose}
use Rattle.flow_outside.specs.Told.{Appends, AppendsPrefix}
use Rattle.flow_outside.specs.Files.{Files}

-- A shelf, before and after: its files, where told, the count of faults of each name, and how many readers live
-- afterwards.
pub record Reads : Type 0 where
  pub told : Option Files
  pub before : List ℕ → ℕ
  pub after : List ℕ → ℕ
  pub living : ℕ

-- A sink, before and after: its bytes, where told, and its count of faults.
pub record Writes : Type 0 where
  pub old : Option (List ℕ)
  pub new : Option (List ℕ)
  pub before : ℕ
  pub after : ℕ

-- nothing was written
abbrev pub WritesNothing : Writes → Type 0
WritesNothing w = w.new ≡ w.old

-- exactly this text was written
abbrev pub WritesAll : Writes → List ℕ → Type 0
WritesAll w text = Appends w.old w.new text

-- A prefix of the text was written, and all of it unless the count rose.
pub record Reports (w : Writes) (text : List ℕ) : Type 0 where
  pub front : AppendsPrefix w.old w.new text
  pub whole : WritesAll w text ⊎ Rose w.before w.after
