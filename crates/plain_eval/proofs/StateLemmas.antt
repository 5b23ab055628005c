-- The last state of an iteration, superstep by superstep.
use Rattle.std.proofs.Common.{◌≡◌, ℕ, zero, suc, Bool, true, false, List, [], refl, ap, ◌∙◌}
use Rattle.flow_model.specs.States.{states, last_state}

module _ {S : Type 0} (goes_on : S → Bool) (next : S → S) where
  -- the states after this one
  abbrev after : ℕ → S → Bool → List S
  after n s goes = elim goes [ true ↦ states goes_on next n (next s) | false ↦ [] ]

  -- a state from which an iteration doesn't go on is the last one
  pub last-stops : (n : ℕ) (x s : S) → goes_on s ≡ false → last_state x (states goes_on next n s) ≡ s
  last-stops zero x s h = refl
  last-stops (suc n) x s h = ap (λ b. last_state s (after n s b)) h

  last-first : (n : ℕ) (x y s : S) → last_state x (states goes_on next n s) ≡ last_state y (states goes_on next n s)
  last-first zero x y s = refl
  last-first (suc n) x y s = refl

  -- the last state is that of the next one, with a superstep less
  pub last-turn : (n m : ℕ) (x y s : S) → n ≡ suc m → goes_on s ≡ true → last_state x (states goes_on next n s) ≡ last_state y (states goes_on next m (next s))
  last-turn n m x y s less h =
      ap (λ k. last_state x (states goes_on next k s)) less
      ∙ ap (λ b. last_state s (after m s b)) h
      ∙ last-first m s y (next s)
