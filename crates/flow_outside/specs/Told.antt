use Rattle.std.specs.Prelude.{◌≡◌, ℕ, ◌<◌, ◌≤◌, List, ◌++◌, length, take, Option, Some, None}

-- A claim about contents, which binds only where they are told. The objects in memory tell theirs, and a real
-- file, a terminal and a spill file don't. The rule is this project's own.
abbrev pub IfTold : {X : Type 0} → Option X → (X → Type 0) → Type 0
IfTold None p = Unit {0}
IfTold (Some contents) p = p contents

-- What is told once `text` was added at the end: where nothing was told, nothing is told.
abbrev pub with_text : Option (List ℕ) → List ℕ → Option (List ℕ)
with_text None text = None
with_text (Some bytes) text = Some (bytes ++ text)

-- All of `text` was added at the end, and nothing else. What tells goes on telling, and what doesn't tell goes on
-- not telling.
abbrev pub Appends : (old new : Option (List ℕ)) → (text : List ℕ) → Type 0
Appends old new text = new ≡ with_text old text

-- The first `count` bytes of `text` were added at the end, and at least its last byte was not.
pub record AppendsProperPrefix (old new : Option (List ℕ)) (text : List ℕ) : Type 0 where
  pub count : ℕ
  pub proper : count < length text
  pub appended : Appends old new (take count text)

-- The first `count` bytes of `text` were added at the end, which may be all of them.
pub record AppendsPrefix (old new : Option (List ℕ)) (text : List ℕ) : Type 0 where
  pub count : ℕ
  pub within : count ≤ length text
  pub appended : Appends old new (take count text)
