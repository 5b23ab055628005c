-- Quotients in 64 bits.
use Rattle.std.proofs.Common.{◌≡◌, ℕ, zero, suc, ◌≤◌, ◌<◌, ◌/◌, ◌^◌, ℤ, pos, negsuc, ap, sym, ◌∙◌, arith, w64, FitsSigned, to_z, of_z, false, cond, refl}
use Rattle.std.proofs.Math.Nat.{div-le_self}
use Rattle.std.proofs.lemmas.Int.{of_z-to_z, to_z-of_z}
use Rattle.std.specs.Ordering.{int_eq}
use Rattle.std.proofs.lemmas.Bool.Decides.{nat_tests}
use Rattle.std.specs.Prelude.{unsigned_abs, int_div, neg_ℤ}
use Rattle.std.specs.Int.{int_wrap}
use Rattle.flow_types.specs.Expressions.{wrap, div}

-- what is left of a number in 64 bits is its bits' number
bits_wrap : (z : ℤ) → unsigned_abs z ≤ 2 ^ 63 → to_z w64 (of_z w64 z) ≡ int_wrap w64 z
unfolding int_wrap
bits_wrap (pos n) h = ap (to_z w64) (omega arith)
bits_wrap (negsuc n) h = ap (to_z w64) (omega arith)

abs-neg : (n : ℕ) → unsigned_abs (neg_ℤ (pos n)) ≡ n
abs-neg zero = omega arith
abs-neg (suc n) = omega arith

-- a quotient is no larger than its dividend
abs-div : (a b : ℤ) → unsigned_abs (int_div a b) ≤ unsigned_abs a
abs-div (pos a) (pos b) = div-le_self a b
abs-div (pos a) (negsuc b) = omega (arith, abs-neg (a / suc b), div-le_self a (suc b))
abs-div (negsuc a) (pos b) = omega (arith, abs-neg (suc a / b), div-le_self (suc a) b)
abs-div (negsuc a) (negsuc b) = div-le_self (suc a) (suc b)

-- a quotient's bits are those of what is left of it
pub div_wraps : (a b : ℤ) → unsigned_abs a ≤ 2 ^ 63 → to_z w64 (of_z w64 (int_div a b)) ≡ wrap (int_div a b)
div_wraps a b h = bits_wrap (int_div a b) (omega (arith, abs-div a b, h))

not_zero : (b : ℤ) → (of_z w64 b ≡ 0 → ⊥) → int_eq b (pos 0) ≡ false
not_zero (pos zero) h = absurd (h refl)
not_zero (pos (suc n)) h = grind (arith, nat_tests)
not_zero (negsuc n) h = grind (arith, nat_tests)

small : (a : ℤ) → FitsSigned w64 a → unsigned_abs a ≤ 2 ^ 63
small (pos n) f = omega (arith, f.sfits)
small (negsuc n) f = omega (arith, f.sfits)

bits_small : (q : ℤ) → unsigned_abs q ≤ 2 ^ 63 → of_z w64 q < 2 ^ 64
bits_small (pos n) h = omega arith
bits_small (negsuc n) h = omega arith

-- what the code's division gives, where the divisor isn't 0
pub div_by : (a b r : ℤ) → FitsSigned w64 a → FitsSigned w64 b → (of_z w64 b ≡ 0 → ⊥) → r ≡ to_z w64 (of_z w64 (int_div (to_z w64 (of_z w64 a)) (to_z w64 (of_z w64 b)))) → to_z w64 (of_z w64 r) ≡ div a b
div_by a b r f g h e =
    let least = small a f in
    let below = bits_small (int_div a b) (omega (arith, abs-div a b, least)) in
    ap (λ z. to_z w64 (of_z w64 z)) e
    ∙ ap (λ z. to_z w64 (of_z w64 (to_z w64 (of_z w64 (int_div z (to_z w64 (of_z w64 b))))))) (to_z-of_z w64 a f)
    ∙ ap (λ z. to_z w64 (of_z w64 (to_z w64 (of_z w64 (int_div a z))))) (to_z-of_z w64 b g)
    ∙ ap (to_z w64) (of_z-to_z w64 (of_z w64 (int_div a b)) below)
    ∙ div_wraps a b least
    ∙ ap (λ t. cond t (pos 0) (wrap (int_div a b))) (sym (not_zero b h))
