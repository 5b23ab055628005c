-- What is known of two values that may be there. The rules are this project's own.
use Rattle.std.specs.Prelude.{Option, Some, None}

-- Where the first is there, so is the second, and they are related; where it isn't, neither is the second.
abbrev pub Both : {X : Type 0} → (X → X → Type 0) → Option X → Option X → Type 0
Both R None None = Unit {0}
Both R None (Some y) = ⊥
Both R (Some x) None = ⊥
Both R (Some x) (Some y) = R x y

-- Where the first is there, so is the second, and they are related.
abbrev pub WhileThere : {X : Type 0} → (X → X → Type 0) → Option X → Option X → Type 0
WhileThere R None second = Unit {0}
WhileThere R (Some x) None = ⊥
WhileThere R (Some x) (Some y) = R x y
