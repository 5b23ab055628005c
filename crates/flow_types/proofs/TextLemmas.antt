-- Texts that are cut and joined.
use Rattle.std.proofs.Common.{subst, ◌⊎◌, inl, inr, sym, ap, ◌∙◌, ◌≡◌, ℕ, ◌+◌, ◌<◌, ◌≤◌, Bool, true, false, cond, List, [], ◌++◌, length, get_or, take, refl, arith, zero, suc, length-append, length-take}
use Rattle.std.specs.Prelude.{IsTrue, nat_le}
use Rattle.std.specs.Str.{is_utf8, IsUtf8, IsCharBoundary}
use Rattle.std.proofs.lemmas.Bool.Decides.{nat_tests}
use Rattle.std.proofs.lemmas.Bool.{cases_lt}
use Rattle.std.proofs.lemmas.List.{take_all, take_min}
use Rattle.std.proofs.lemmas.Str.{IsCharBoundary-from_take, IsUtf8-append, IsUtf8-take, IsUtf8-nil, IsCharBoundary-start, IsUtf8-from_is_utf8, is_utf8-from_IsUtf8}
use Rattle.flow_types.specs.Limits.{text_limit}
use Rattle.flow_types.specs.Values.{is_text}
use Rattle.flow_types.specs.Expressions.{goes_on, cut_place, cut}
use Rattle.flow_types.proofs.ValueLemmas.{both_true, both_pass}

pub cut_place-le : (bytes : List ℕ) (n : ℕ) → cut_place bytes n ≤ n
cut_place-le bytes zero = omega arith
cut_place-le bytes (suc n) = go (goes_on (get_or bytes (suc n) 0)) (cut_place-le bytes n)
  where
    go : (b : Bool) → cut_place bytes n ≤ n → cond b (cut_place bytes n) (suc n) ≤ suc n
    go true h = omega arith
    go false h = omega arith

-- a byte that goes on with no code point may begin one
begins : (b : ℕ) → goes_on b ≡ false → 128 ≤ b → 192 ≤ b
begins b h low = grind (arith, nat_tests)

-- a byte that goes on with a code point begins none
clash : (b : ℕ) → goes_on b ≡ true → (128 ≤ b → 192 ≤ b) → ⊥
clash b h lead =
    let low : 128 ≤ b = grind (arith, nat_tests) in
    let lead : 192 ≤ b = lead low in
    grind (arith, nat_tests)

pub cut_place-boundary : (bytes : List ℕ) (n : ℕ) → IsUtf8 bytes → n < length bytes → IsCharBoundary bytes (cut_place bytes n)
cut_place-boundary bytes zero u low = IsCharBoundary-start bytes u
cut_place-boundary bytes (suc n) u low = go (goes_on (get_or bytes (suc n) 0)) refl (cut_place-boundary bytes n u (omega arith))
  where
    go : (b : Bool) → goes_on (get_or bytes (suc n) 0) ≡ b → IsCharBoundary bytes (cut_place bytes n) → IsCharBoundary bytes (cond b (cut_place bytes n) (suc n))
    go true e h = h
    go false e h = (omega arith, λ below low. begins (get_or bytes (suc n) 0) e low)

pub cut-le : (n : ℕ) (bytes : List ℕ) → length (cut n bytes) ≤ n
cut-le n bytes = go (nat_le (length bytes) n) refl
  where
    go : (b : Bool) → nat_le (length bytes) n ≡ b → length (cond b bytes (take (cut_place bytes n) bytes)) ≤ n
    go true e = grind (arith, nat_tests)
    go false e = omega (arith, length-take (cut_place bytes n) bytes, cut_place-le bytes n)

pub cut-le-length : (n : ℕ) (bytes : List ℕ) → length (cut n bytes) ≤ length bytes
cut-le-length n bytes = go (nat_le (length bytes) n)
  where
    go : (b : Bool) → length (cond b bytes (take (cut_place bytes n) bytes)) ≤ length bytes
    go true = omega arith
    go false = omega (arith, length-take (cut_place bytes n) bytes)

pub cut-IsUtf8 : (n : ℕ) (bytes : List ℕ) → IsUtf8 bytes → IsUtf8 (cut n bytes)
cut-IsUtf8 n bytes u = go (nat_le (length bytes) n) refl
  where
    go : (b : Bool) → nat_le (length bytes) n ≡ b → IsUtf8 (cond b bytes (take (cut_place bytes n) bytes))
    go true e = u
    go false e = IsUtf8-take bytes (cut_place bytes n) u (cut_place-boundary bytes n u (grind (arith, nat_tests)))

pub cut-take : (n : ℕ) (bytes : List ℕ) → cut n bytes ≡ take (length (cut n bytes)) bytes
cut-take n bytes = go (nat_le (length bytes) n)
  where
    go : (b : Bool) → cond b bytes (take (cut_place bytes n) bytes) ≡ take (length (cond b bytes (take (cut_place bytes n) bytes))) bytes
    go true = sym (take_all (length bytes) bytes (omega arith))
    go false = sym (ap (λ k. take k bytes) (length-take (cut_place bytes n) bytes) ∙ take_min (cut_place bytes n) bytes)

-- no place at which the text can be cut is between this one and n
pub cut_place-ge : (bytes : List ℕ) (n k : ℕ) → k ≤ n → n < length bytes → IsCharBoundary bytes k → k ≤ cut_place bytes n
cut_place-ge bytes zero k low in' h = low
cut_place-ge bytes (suc n) k low in' h = go (goes_on (get_or bytes (suc n) 0)) refl (cases_lt k (suc n)) (λ below. cut_place-ge bytes n k below (omega arith) h)
  where
    go : (b : Bool) → goes_on (get_or bytes (suc n) 0) ≡ b → (k < suc n) ⊎ (suc n ≤ k) → (k ≤ n → k ≤ cut_place bytes n) → k ≤ cond b (cut_place bytes n) (suc n)
    go false e c more = low
    go true e (inl below) more = more (omega arith)
    go true e (inr past) more =
        let here : k ≡ suc n = omega arith in
        absurd (clash (get_or bytes (suc n) 0) e (subst (λ m. m < length bytes → 128 ≤ get_or bytes m 0 → 192 ≤ get_or bytes m 0) here h.1 in'))

pub cut-longest : (n k : ℕ) (bytes : List ℕ) → IsUtf8 bytes → k ≤ n → k ≤ length bytes → IsUtf8 (take k bytes) → k ≤ length (cut n bytes)
cut-longest n k bytes u low in' cuts = go (nat_le (length bytes) n) refl
  where
    go : (b : Bool) → nat_le (length bytes) n ≡ b → k ≤ length (cond b bytes (take (cut_place bytes n) bytes))
    go true e = in'
    go false e =
        let past : n < length bytes = grind (arith, nat_tests) in
        omega (arith, length-take (cut_place bytes n) bytes, cut_place-ge bytes n k low past (IsCharBoundary-from_take bytes k u in' cuts))

-- ---- texts: UTF-8 within the limit

pub text-is : (s : List ℕ) → length s ≤ text_limit → IsUtf8 s → IsTrue (is_text s)
text-is s short u =
    let low : nat_le (length s) text_limit ≡ true = grind (arith, nat_tests) in
    both_pass (nat_le (length s) text_limit) (is_utf8 s) low (is_utf8-from_IsUtf8 s u)

pub text-le : (s : List ℕ) → IsTrue (is_text s) → length s ≤ text_limit
text-le s h = let e = (both_true (nat_le (length s) text_limit) (is_utf8 s) h).0 in grind (arith, nat_tests)

pub text-utf8 : (s : List ℕ) → IsTrue (is_text s) → IsUtf8 s
text-utf8 s h = IsUtf8-from_is_utf8 s (both_true (nat_le (length s) text_limit) (is_utf8 s) h).1

pub text-nil : IsTrue (is_text [])
text-nil = text-is [] (omega arith) IsUtf8-nil

pub text-cut : (n : ℕ) (s : List ℕ) → IsTrue (is_text s) → IsTrue (is_text (cut n s))
text-cut n s h = text-is (cut n s) (omega (arith, cut-le-length n s, text-le s h)) (cut-IsUtf8 n s (text-utf8 s h))

pub text-append : (s t : List ℕ) → IsTrue (is_text s) → IsTrue (is_text t) → length s + length t ≤ text_limit → IsTrue (is_text (s ++ t))
text-append s t g h short = text-is (s ++ t) (omega (arith, length-append s t)) (IsUtf8-append s t (text-utf8 s g) (text-utf8 t h))
