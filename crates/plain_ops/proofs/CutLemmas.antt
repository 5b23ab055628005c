-- Where a text is cut.
use Rattle.std.proofs.Common.{◌≡◌, ℕ, zero, suc, ◌≤◌, ◌<◌, inl, inr, List, length, take, get_or, Bool, true, false, cond, leb, refl, ap, subst, arith}
use Rattle.std.specs.Str.{IsCharBoundary}
use Rattle.std.proofs.lemmas.Bool.{cases_lt}
use Rattle.std.proofs.lemmas.Bool.Decides.{nat_tests}
use Rattle.std.proofs.lemmas.List.{take_all}
use Rattle.flow_types.specs.Expressions.{goes_on, cut_place, cut}

goes_on-no : (x : ℕ) → goes_on x ≡ false → 128 ≤ x → 192 ≤ x
goes_on-no x h low = grind (arith, nat_tests)

goes_on-yes : (x : ℕ) → goes_on x ≡ true → (128 ≤ x → 192 ≤ x) → ⊥
goes_on-yes x h up = grind (arith, nat_tests)

module _ (text : List ℕ) where
  -- at a boundary the byte, where there is one, doesn't go on
  stays : (p q : ℕ) → p ≡ q → q < length text → IsCharBoundary text p → 128 ≤ get_or text q 0 → 192 ≤ get_or text q 0
  stays p q same within here = subst (λ r. r < length text → 128 ≤ get_or text r 0 → 192 ≤ get_or text r 0) same here.1 within

  -- the last boundary up to a place within the text is where it is cut
  cut_place_is : (n p : ℕ) → n < length text → p ≤ n → IsCharBoundary text p → ((i : ℕ) → p < i → i ≤ n → ¬ (IsCharBoundary text i)) → p ≡ cut_place text n
  cut_place_is zero p short low here none = omega arith
  cut_place_is (suc n) p short low here none =
      go (goes_on (get_or text (suc n) 0)) refl (λ less. cut_place_is n p (omega arith) less here (λ i above below. none i above (omega arith)))
    where
      go : (b : Bool) → goes_on (get_or text (suc n) 0) ≡ b → (p ≤ n → p ≡ cut_place text n) → p ≡ cond b (cut_place text n) (suc n)
      go true e before = elim (cases_lt p (suc n)) [
        | inl less ↦ before (omega arith)
        | inr more ↦ absurd (goes_on-yes (get_or text (suc n) 0) e (stays p (suc n) (omega arith) short here))
      ]
      go false e before = elim (cases_lt p (suc n)) [
        | inl less ↦ absurd (none (suc n) less (omega arith) (omega arith, λ within big. goes_on-no (get_or text (suc n) 0) e big))
        | inr more ↦ omega arith
      ]

  pub cut_is : (n p : ℕ) → p ≤ n → IsCharBoundary text p → ((i : ℕ) → p < i → i ≤ n → ¬ (IsCharBoundary text i)) → take p text ≡ cut n text
  cut_is n p low here none = go (leb (length text) n) refl
    where
      go : (b : Bool) → leb (length text) n ≡ b → take p text ≡ cond b text (take (cut_place text n) text)
      go true e = elim (cases_lt p (length text)) [
        | inl less ↦ absurd (none (length text) less (grind (arith, nat_tests)) (omega arith, λ within big. absurd (omega arith)))
        | inr more ↦ take_all p text more
      ]
      go false e = ap (λ q. take q text) (cut_place_is n p (grind (arith, nat_tests)) low here none)
