use Rattle.std.specs.Prelude.{ℕ, zero, suc, Bool, true, false, List, [], ◌∷◌}

-- The states of an iteration.

-- the states that an iteration passes, the first one included: while a state goes on and supersteps are left, the
-- next one is made of it
abbrev pub states : {S : Type 0} → (S → Bool) → (S → S) → ℕ → S → List S
states goes_on next zero s = s ∷ []
states goes_on next (suc n) s = s ∷ elim (goes_on s) [ true ↦ states goes_on next n (next s) | false ↦ [] ]

-- the last of states; the stated one where there is none
abbrev pub last_state : {S : Type 0} → S → List S → S
last_state s [] = s
last_state s (t ∷ ts) = last_state t ts
