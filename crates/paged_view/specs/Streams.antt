-- What streams of records do. The rules are this project's own.
use Rattle.std.specs.Prelude.{◌≡◌, ℕ, Bool, true, false, List, [], ◌∷◌, Option, Some, None}
use Rattle.flow_outside.specs.Blocks.{Blocks}
use Rattle.flow_outside.specs.Told.{IfTold}

-- The rows that are left of a stream are known, where the disk tells. `left` says of rows that they are what is left.
abbrev pub KnowsRows : Option Blocks → (left : List (List ℕ) → Type 0) → Type 0
KnowsRows told left = IfTold told (λ _. (rows : List (List ℕ)) × left rows)

-- What an advance that answered `more` makes of the rows that were left: it goes on exactly where there are some, the
-- first is then shown, and the others are left. At the end none is shown, and none is left.
abbrev pub Advances : (rows : List (List ℕ)) → (more : Bool) → (shown : Option (List ℕ)) → (left : List (List ℕ) → Type 0) → Type 0
Advances [] false shown left = (shown ≡ None) × left []
Advances [] true shown left = ⊥
Advances (row ∷ rows) false shown left = ⊥
Advances (row ∷ rows) true shown left = (shown ≡ Some row) × left rows
