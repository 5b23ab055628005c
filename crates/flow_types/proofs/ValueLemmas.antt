-- Numbers that are a Long's, and values that a field can hold.
use Rattle.std.proofs.Common.{◌≡◌, ℕ, ◌<◌, Bool, true, false, ◌&&◌, [], ◌∷◌, subst, arith, refl, zero, suc}
use Rattle.std.specs.Prelude.{IsTrue, FitsSigned, ℤ, pos}
use Rattle.std.specs.Int.{int_wrap, w64}
use Rattle.std.specs.List.{list_all}
use Rattle.std.proofs.lemmas.Bool.Decides.{Decides-int_eq}
use Rattle.std.proofs.lemmas.Int.{int_wrap_fits, SFits-int_wrap}
use Rattle.flow_types.specs.declared.value.Value.{Value}
use Rattle.flow_types.specs.declared.value.Value.TheVariants as value
use Rattle.flow_types.specs.Values.{is_long, is_value, long_of}
use Rattle.flow_types.specs.Tuples.{Tuple, field}
use Rattle.flow_types.specs.Expressions.{wrap}

-- both of two tests that pass together
pub both_true : (a b : Bool) → (a && b) ≡ true → (a ≡ true) × (b ≡ true)
both_true true b h = (refl, h)
both_true false b h = cc

-- two tests that pass, together
pub both_pass : (a b : Bool) → a ≡ true → b ≡ true → (a && b) ≡ true
both_pass true b g h = h
both_pass false b g h = cc

-- a number that fits in 64 bits is a Long's, and the other way round
pub long_from_fits : (n : ℤ) → FitsSigned w64 n → IsTrue (is_long n)
long_from_fits n fits = (Decides-int_eq (int_wrap w64 n) n).1 (int_wrap_fits w64 n fits)

pub wrap_long : (n : ℤ) → IsTrue (is_long n) → wrap n ≡ n
wrap_long n long = (Decides-int_eq (int_wrap w64 n) n).0 long

pub fits_from_long : (n : ℤ) → IsTrue (is_long n) → FitsSigned w64 n
fits_from_long n long = subst (FitsSigned w64) (wrap_long n long) (SFits-int_wrap w64 n)

pub long-wrap : (n : ℤ) → IsTrue (is_long (wrap n))
long-wrap n = long_from_fits (wrap n) (SFits-int_wrap w64 n)

-- small numbers
pub long-pos : (n : ℕ) → n < 9223372036854775808 → IsTrue (is_long (pos n))
long-pos n small = long_from_fits (pos n) (record { sfits = small })

pub long-zero : IsTrue (is_long (pos 0))
long-zero = long-pos 0 (omega arith)

pub long-long_of : (v : Value) → IsTrue (is_value v) → IsTrue (is_long (long_of v))
long-long_of (value.Long n) h = h
long-long_of (value.Bool b) h = long-zero
long-long_of (value.Str s) h = long-zero

pub value-field : (i : ℕ) (t : Tuple) → IsTrue (list_all is_value t) → IsTrue (is_value (field i t))
value-field i [] h = long-zero
value-field zero (v ∷ vs) h = (both_true (is_value v) (list_all is_value vs) h).0
value-field (suc i) (v ∷ vs) h = value-field i vs (both_true (is_value v) (list_all is_value vs) h).1
