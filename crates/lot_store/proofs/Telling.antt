-- What follows of what a disk tells.
use Rattle.std.proofs.Common.{◌≡◌, Option, Some, None, refl, sym, subst}
use Rattle.flow_outside.specs.Blocks.{Blocks, BothTold}
use Rattle.flow_outside.specs.Told.{IfTold}

-- what is so of blocks that didn't change
pub told_same : (t : Option Blocks) (P : Blocks → Blocks → Type 0) → ((m : Blocks) → P m m) → BothTold t t P
told_same None P f = tt
told_same (Some m) P f = f m

-- what is told was so before a change, and is so still
pub told_after : (t u : Option Blocks) (A B : Blocks → Type 0) (P : Blocks → Blocks → Type 0) → ((m n : Blocks) → A m → P m n → B n) → IfTold t A → BothTold t u P → IfTold u B
told_after None None A B P f a p = tt
told_after None (Some n) A B P f a p = absurd p
told_after (Some m) None A B P f a p = tt
told_after (Some m) (Some n) A B P f a p = f m n a p

-- what follows of what is told
pub told_weaker : (t : Option Blocks) (A B : Blocks → Type 0) → ((m : Blocks) → A m → B m) → IfTold t A → IfTold t B
told_weaker None A B f a = tt
told_weaker (Some m) A B f a = f m a

-- what is so of blocks that didn't change, by what is told
pub told_of : (t : Option Blocks) (A : Blocks → Type 0) (P : Blocks → Blocks → Type 0) → ((m : Blocks) → A m → P m m) → IfTold t A → BothTold t t P
told_of None A P f a = tt
told_of (Some m) A P f a = f m a

-- what follows of a change
pub told_map : (t u : Option Blocks) (P Q : Blocks → Blocks → Type 0) → ((m n : Blocks) → P m n → Q m n) → BothTold t u P → BothTold t u Q
told_map None None P Q f p = tt
told_map None (Some n) P Q f p = p
told_map (Some m) None P Q f p = p
told_map (Some m) (Some n) P Q f p = f m n p

-- the same where no block changed
pub told_turn : (t u : Option Blocks) → u ≡ t → (P Q : Blocks → Blocks → Type 0) → ((m : Blocks) → P m m → Q m m) → BothTold t u P → BothTold t u Q
told_turn t u same P Q f p = subst (λ o. BothTold t o Q) (sym same) (at_one t (subst (λ o. BothTold t o P) same p))
  where
    at_one : (o : Option Blocks) → BothTold o o P → BothTold o o Q
    at_one None h = tt
    at_one (Some m) h = f m h

-- a disk that doesn't tell didn't tell before
pub untold_before : (t u : Option Blocks) (P : Blocks → Blocks → Type 0) → BothTold t u P → u ≡ None → t ≡ None
untold_before None u P h none = refl
untold_before (Some m) None P h none = absurd h
untold_before (Some m) (Some n) P h none = cc
