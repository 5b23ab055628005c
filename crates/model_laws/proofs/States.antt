-- The states of two iterations that begin related and whose steps keep them so, and what each step keeps.
use Rattle.std.proofs.Common.{◌≡◌, ℕ, Bool, true, false, List, [], ◌∷◌, zero, suc}
use Rattle.std.specs.Prelude.{All}
use Rattle.std.proofs.lemmas.List.Elements.{All-nil, All-cons, All-head, All-tail}
use Rattle.flow_model.specs.States.{states, last_state}
use Rattle.model_laws.proofs.Zips.{Zipped}

module _ {S : Type 0} (R : S → S → Type 0) where
  -- what follows a state, where it goes on
  follows : (b c : Bool) → b ≡ c → {ss ts : List S} → Zipped R ss ts → Zipped R (elim b [ true ↦ ss | false ↦ [] ]) (elim c [ true ↦ ts | false ↦ [] ])
  follows true true e z = z
  follows true false e z = cc
  follows false true e z = cc
  follows false false e z = Zipped.none

  pub states-related : (goes_on : S → Bool) (f g : S → S) → ((s t : S) → R s t → goes_on s ≡ goes_on t) → ((s t : S) → R s t → R (f s) (g t)) → (n : ℕ) (s t : S) → R s t → Zipped R (states goes_on f n s) (states goes_on g n t)
  states-related goes_on f g test step zero s t r = Zipped.more r Zipped.none
  states-related goes_on f g test step (suc n) s t r =
      Zipped.more r (follows (goes_on s) (goes_on t) (test s t r) (states-related goes_on f g test step n (f s) (g t) (step s t r)))

  pub last_state-related : {ss ts : List S} → Zipped R ss ts → (s t : S) → R s t → R (last_state s ss) (last_state t ts)
  last_state-related Zipped.none s t r = r
  last_state-related (Zipped.more {x} {y} r z) s t q = last_state-related z x y r

module _ {S : Type 0} (P : S → Type 0) where
  -- what holds of each state that follows, where states go on
  all_follow : (b : Bool) (ss : List S) → All P ss → All P (elim b [ true ↦ ss | false ↦ [] ])
  all_follow true ss h = h
  all_follow false ss h = All-nil P

  pub states-all : (goes_on : S → Bool) (next : S → S) → ((s : S) → P s → P (next s)) → (n : ℕ) (s : S) → P s → All P (states goes_on next n s)
  states-all goes_on next step zero s h = All-cons P s [] h (All-nil P)
  states-all goes_on next step (suc n) s h =
      All-cons P s (elim (goes_on s) [ true ↦ states goes_on next n (next s) | false ↦ [] ]) h
      (all_follow (goes_on s) (states goes_on next n (next s)) (states-all goes_on next step n (next s) (step s h)))

  pub last_state-all : (ss : List S) (s : S) → P s → All P ss → P (last_state s ss)
  last_state-all [] s h all = h
  last_state-all (t ∷ ss) s h all = last_state-all ss t (All-head P t ss all) (All-tail P t ss all)
