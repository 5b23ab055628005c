-- The first demand among those of the workers, and among those of an iteration's states.
use Rattle.std.proofs.Common.{◌≡◌, ℕ, zero, suc, ◌+◌, ◌<◌, ◌≤◌, inl, inr, Bool, true, false, cond, ltb, List, [], ◌∷◌, map, find, Option, Some, None, is_some, option_map, refl, sym, ap, ◌∙◌, arith}
use Rattle.std.specs.Option.{option_or}
use Rattle.std.proofs.lemmas.Bool.{cases_lt}
use Rattle.std.proofs.lemmas.Bool.Decides.{nat_tests}
use Rattle.std.proofs.lemmas.List.{map_push}
use Rattle.std.proofs.lemmas.List.Folds.{find-append}
use Rattle.flow_model.specs.Env.{Tuples}
use Rattle.flow_model.specs.Full.{Demand, numbers_below, own_entries, packed_bytes}
use Rattle.flow_model.specs.States.{states}
use Rattle.flow_model.specs.Algebra.{DeltaState}
use Rattle.plain_full.specs.declared.demand.Demand as code
use Rattle.plain_full.specs.Demands.{seen, is_above, demand_at, first_of_state, first_of_states}

-- the first demand of the workers below a number
abbrev pub first_below : (ℕ → Demand) → ℕ → Option Demand
first_below f n = find is_above (map f (numbers_below n))

first_below-more : (f : ℕ → Demand) (n : ℕ) → first_below f (suc n) ≡ option_or (first_below f n) (cond (is_above (f n)) (Some (f n)) None)
first_below-more f n = ap (find is_above) (map_push f (numbers_below n) n) ∙ find-append is_above (map f (numbers_below n)) (f n ∷ [])

-- one that was found is found among more
first_below-stays : (f : ℕ → Demand) (m n : ℕ) (d : Demand) → m ≤ n → first_below f m ≡ Some d → first_below f n ≡ Some d
first_below-stays f m zero d low h =
    let same : m ≡ 0 = omega arith in
    ap (first_below f) (sym same) ∙ h
first_below-stays f m (suc n) d low h = elim (cases_lt n m) [
  | inl less ↦ (let same : m ≡ suc n = omega arith in ap (first_below f) (sym same) ∙ h)
  | inr more ↦ first_below-more f n ∙ ap (λ o. option_or o (cond (is_above (f n)) (Some (f n)) None)) (first_below-stays f m n d more h)
]

first_below-passed : (f : ℕ → Demand) (n : ℕ) → first_below f n ≡ None → is_above (f n) ≡ false → first_below f (suc n) ≡ None
first_below-passed f n none within =
    first_below-more f n
    ∙ ap (λ o. option_or o (cond (is_above (f n)) (Some (f n)) None)) none
    ∙ ap (λ b. cond b (Some (f n)) None) within

first_below-found : (f : ℕ → Demand) (n workers : ℕ) → n < workers → first_below f n ≡ None → is_above (f n) ≡ true → first_below f workers ≡ Some (f n)
first_below-found f n workers less none above =
    first_below-stays f (suc n) workers (f n) (omega arith)
    (first_below-more f n ∙ ap (λ o. option_or o (cond (is_above (f n)) (Some (f n)) None)) none ∙ ap (λ b. cond b (Some (f n)) None) above)

is_within : (have need want : ℕ) → need ≡ want → need ≤ have → ltb have want ≡ false
is_within have need want is low = grind (arith, nat_tests)

is_beyond : (have need want : ℕ) → need ≡ want → have < need → ltb have want ≡ true
is_beyond have need want is less = grind (arith, nat_tests)

-- a demand of these numbers, found
abbrev pub told : ℕ → ℕ → ℕ → ℕ → ℕ → Option Demand
told number step worker need have = Some (record { node = number; step = step; worker = worker; need = need; have = have })

module _ (workers have number : ℕ) (key : List ℕ) (step : ℕ) (entries : Tuples) (worker need : ℕ) where
  -- a worker whose demand is within what is there
  pub worker_passed : first_below (demand_at workers have number key step entries) worker ≡ None → need ≡ packed_bytes (own_entries key workers worker entries) → need ≤ have → first_below (demand_at workers have number key step entries) (worker + 1) ≡ None
  worker_passed none is low =
      let next : worker + 1 ≡ suc worker = omega arith in
      ap (first_below (demand_at workers have number key step entries)) next
      ∙ first_below-passed (demand_at workers have number key step entries) worker none (is_within have need (packed_bytes (own_entries key workers worker entries)) is low)

  -- the first worker whose demand is above
  pub worker_found : worker < workers → first_below (demand_at workers have number key step entries) worker ≡ None → need ≡ packed_bytes (own_entries key workers worker entries) → have < need → told number step worker need have ≡ first_of_state workers have number key step entries
  worker_found less none is above =
      ap (λ n. told number step worker n have) is
      ∙ sym (first_below-found (demand_at workers have number key step entries) worker workers less none (is_beyond have need (packed_bytes (own_entries key workers worker entries)) is above))

-- none is found
pub none_found : (first : Option code.Demand) (o : Option Demand) → is_some first ≡ false → option_map seen first ≡ o → o ≡ None
none_found None o h e = sym e
none_found (Some d) o h e = cc

module _ (workers have number : ℕ) (key : List ℕ) (goes : DeltaState → Bool) (onward : DeltaState → DeltaState) where
  -- the first demand of the states from one on
  abbrev pub first_on : ℕ → ℕ → DeltaState → Option Demand
  first_on step left s = first_of_states workers have number key step (states goes onward left s)

  abbrev here : ℕ → DeltaState → Option Demand
  here step s = first_of_state workers have number key step s.entries

  -- it is found in this state
  pub first_on-found : (first : Option code.Demand) (step left : ℕ) (s : DeltaState) → is_some first ≡ true → option_map seen first ≡ here step s → option_map seen first ≡ first_on step left s
  first_on-found None step left s h e = cc
  first_on-found (Some d) step zero s h e = ap (λ o. option_or o None) e
  first_on-found (Some d) step (suc left) s h e =
      ap (λ o. option_or o (first_of_states workers have number key (suc step) (elim (goes s) [ true ↦ states goes onward left (onward s) | false ↦ [] ]))) e

  option_or-none : (o : Option Demand) → option_or o None ≡ o
  option_or-none None = refl
  option_or-none (Some d) = refl

  -- no superstep is left
  pub first_on-end : (step left : ℕ) (s : DeltaState) → left ≡ 0 → first_on step left s ≡ here step s
  first_on-end step left s h = ap (λ n. first_on step n s) h ∙ option_or-none (here step s)

  -- nothing is found, and this state is the last one
  pub first_on-last : (step left : ℕ) (s : DeltaState) → here step s ≡ None → goes s ≡ false → first_on step left s ≡ None
  first_on-last step zero s none h = option_or-none (here step s) ∙ none
  first_on-last step (suc left) s none h =
      ap (λ o. option_or o (first_of_states workers have number key (suc step) (elim (goes s) [ true ↦ states goes onward left (onward s) | false ↦ [] ]))) none
      ∙ ap (λ b. first_of_states workers have number key (suc step) (elim b [ true ↦ states goes onward left (onward s) | false ↦ [] ])) h

  -- nothing is found, and another state follows
  pub first_on-turn : (step left fewer : ℕ) (s t : DeltaState) → left ≡ suc fewer → here step s ≡ None → goes s ≡ true → t ≡ onward s → first_on step left s ≡ first_on (step + 1) fewer t
  first_on-turn step left fewer s t less none h is =
      let next : suc step ≡ step + 1 = omega arith in
      ap (λ n. first_on step n s) less
      ∙ ap (λ o. option_or o (first_of_states workers have number key (suc step) (elim (goes s) [ true ↦ states goes onward fewer (onward s) | false ↦ [] ]))) none
      ∙ ap (λ b. first_of_states workers have number key (suc step) (elim b [ true ↦ states goes onward fewer (onward s) | false ↦ [] ])) h
      ∙ ap (λ r. first_of_states workers have number key (suc step) (states goes onward fewer r)) (sym is)
      ∙ ap (λ k. first_of_states workers have number key k (states goes onward fewer t)) next
