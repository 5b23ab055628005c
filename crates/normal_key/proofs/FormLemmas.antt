-- Normal forms compare as the values do.
use Rattle.std.proofs.Common.{◌≡◌, ℕ, zero, suc, ◌+◌, ◌<◌, ◌≤◌, ◌^◌, Bool, true, false, cond, ◌&&◌, ◌==◌, nat_le, nat_lt, List, [], ◌∷◌, ◌++◌, length, map, refl, sym, ◌∙◌, ap, subst, arith, ℤ, pos, negsuc, FitsSigned, IsTrue, IsUtf8, ◌⊎◌, inl, inr}
use Rattle.std.specs.Prelude.{◌<ℤ◌}
use Rattle.std.specs.Char.{encode_utf8}
use Rattle.std.specs.Str.{is_utf8, encode_utf8_all, all_scalars}
use Rattle.std.specs.Int.{to_be_bytes, w64}
use Rattle.std.specs.List.{flat_map}
use Rattle.std.specs.Cmp.{nat_cmp_is}
use Rattle.std.specs.Cmp.Lexicographic.{slice_cmp}
use Rattle.std.specs.Ordering.{nat_cmp, int_cmp, ordering_then, MatchOrdering}
use Rattle.std.specs.declared.cmp.Ordering.{Ordering}
use Rattle.std.specs.declared.cmp.Ordering.TheVariants.{Less, Equal, Greater}
use Rattle.std.proofs.lemmas.Bool.{and_parts, ltb-true, cond-false, ne_eqb}
use Rattle.std.proofs.lemmas.Cmp.{int_ranked}
use Rattle.std.proofs.lemmas.Int.{ints}
use Rattle.std.proofs.lemmas.Nat.{from_be_bytes-to_be_bytes_8}
use Rattle.std.proofs.lemmas.Str.{IsUtf8-from_is_utf8}
use Rattle.std.proofs.Math.Utf8.{scalar, scalar_cases}
use Rattle.flow_types.specs.Limits.{text_limit}
use Rattle.flow_types.specs.declared.value.Value.{Value}
use Rattle.flow_types.specs.declared.value.Value.TheVariants as value
use Rattle.flow_types.specs.declared.field_type.FieldType.{FieldType}
use Rattle.flow_types.specs.declared.field_type.FieldType.TheVariants as type
use Rattle.flow_types.specs.Values.{value_cmp, is_value, is_long}
use Rattle.flow_types.specs.Types.{fits_field}
use Rattle.flow_types.proofs.OrderLaws.{value_cmp_total}
use Rattle.flow_types.proofs.ValueLemmas.{fits_from_long}
use Rattle.normal_key.specs.NormalForms.{flipped, escaped, normal_form, directed_form}
use Rattle.span_bytes.proofs.DecideLemmas.{Decides, IsLow, low_append, long_low, long_number, decides_front, decides_head, digits_decide, number, cmp_same, cmp_less, cmp_more}
use Rattle.normal_key.proofs.TurnedLemmas.{decides_turned, plain_turned}

-- ---- Longs

flipped_small : (n : ℤ) → flipped n < 2 ^ 64
flipped_small n = omega arith

flipped_rises : (a b : ℤ) → FitsSigned w64 a → FitsSigned w64 b → a <ℤ b → flipped a < flipped b
flipped_rises (pos a) (pos b) left right h = omega (arith, ints, left.sfits, right.sfits)
flipped_rises (pos a) (negsuc b) left right h = omega (arith, ints)
flipped_rises (negsuc a) (pos b) left right h = omega (arith, ints, left.sfits, right.sfits)
flipped_rises (negsuc a) (negsuc b) left right h = omega (arith, ints, left.sfits, right.sfits)

flipped_cmp : (a b : ℤ) → FitsSigned w64 a → FitsSigned w64 b → int_cmp a b ≡ nat_cmp (flipped a) (flipped b)
flipped_cmp a b left right = go (int_cmp a b) (int_ranked a b (int_cmp a b) refl)
  where
    go : (r : Ordering) → MatchOrdering r (a <ℤ b) (a ≡ b) (b <ℤ a) → r ≡ nat_cmp (flipped a) (flipped b)
    go Less h = nat_cmp_is (flipped a) (flipped b) Less (flipped_rises a b left right h)
    go Equal h = nat_cmp_is (flipped a) (flipped b) Equal (ap flipped h)
    go Greater h = nat_cmp_is (flipped a) (flipped b) Greater (flipped_rises b a right left h)

long_decides : (a b : ℤ) → IsTrue (is_long a) → IsTrue (is_long b) → Decides (to_be_bytes w64 (flipped a)) (to_be_bytes w64 (flipped b)) (int_cmp a b)
long_decides a b left right =
    let m : ℕ = flipped a in
    let n : ℕ = flipped b in
    let same : nat_cmp (number 0 (to_be_bytes w64 m)) (number 0 (to_be_bytes w64 n)) ≡ int_cmp a b =
    ap (λ (k : ℕ). nat_cmp k (number 0 (to_be_bytes w64 n))) (long_number m (flipped_small a))
    ∙ ap (nat_cmp m) (long_number n (flipped_small b))
    ∙ sym (flipped_cmp a b (fits_from_long a left) (fits_from_long b right)) in
    subst (Decides (to_be_bytes w64 m) (to_be_bytes w64 n)) same (digits_decide 0 (to_be_bytes w64 m) (to_be_bytes w64 n) refl (long_low m) (long_low n))

-- ---- texts

then_less : (x y : ℕ) (p : Ordering) → x < y → Less ≡ ordering_then (nat_cmp x y) p
then_less x y p h = ap (λ (o : Ordering). ordering_then o p) (sym (cmp_less x y h))

then_more : (x y : ℕ) (p : Ordering) → y < x → Greater ≡ ordering_then (nat_cmp x y) p
then_more x y p h = ap (λ (o : Ordering). ordering_then o p) (sym (cmp_more x y h))

then_same : (x : ℕ) (p : Ordering) → p ≡ ordering_then (nat_cmp x x) p
then_same x p = ap (λ (o : Ordering). ordering_then o p) (sym (cmp_same x))

-- the form of a text
abbrev text_form : List ℕ → List ℕ
text_form s = flat_map escaped s ++ 0 ∷ 0 ∷ []

-- a byte that isn't zero stands in front as it is
text_more : (b : ℕ) (s : List ℕ) → suc b ∷ text_form s ≡ text_form (suc b ∷ s)
text_more b s =
    ap (λ (e : List ℕ). (e ++ flat_map escaped s) ++ 0 ∷ 0 ∷ [])
    (sym (cond-false (suc b == 0) (0 ∷ 255 ∷ []) (suc b ∷ []) (ne_eqb (suc b) 0 (λ e. omega (arith, e)))))

text_decides : (s u : List ℕ) → Decides (text_form s) (text_form u) (slice_cmp nat_cmp s u)
text_decides [] [] = Decides.same (Decides.same Decides.ends)
text_decides [] (zero ∷ u) = Decides.same (Decides.less (omega arith))
text_decides [] (suc c ∷ u) = subst (λ (bs : List ℕ). Decides (text_form []) bs Less) (text_more c u) (Decides.less (omega arith))
text_decides (zero ∷ s) [] = Decides.same (Decides.more (omega arith))
text_decides (suc b ∷ s) [] = subst (λ (bs : List ℕ). Decides bs (text_form []) Greater) (text_more b s) (Decides.more (omega arith))
text_decides (zero ∷ s) (zero ∷ u) =
    subst (Decides (text_form (zero ∷ s)) (text_form (zero ∷ u))) (then_same 0 (slice_cmp nat_cmp s u)) (Decides.same (Decides.same (text_decides s u)))
text_decides (zero ∷ s) (suc c ∷ u) =
    let low : 0 < suc c = omega arith in
    subst (λ (bs : List ℕ). Decides (text_form (zero ∷ s)) bs (slice_cmp nat_cmp (zero ∷ s) (suc c ∷ u))) (text_more c u)
    (subst (Decides (text_form (zero ∷ s)) (suc c ∷ text_form u)) (then_less 0 (suc c) (slice_cmp nat_cmp s u) low) (Decides.less low))
text_decides (suc b ∷ s) (zero ∷ u) =
    let low : 0 < suc b = omega arith in
    subst (λ (bs : List ℕ). Decides bs (text_form (zero ∷ u)) (slice_cmp nat_cmp (suc b ∷ s) (zero ∷ u))) (text_more b s)
    (subst (Decides (suc b ∷ text_form s) (text_form (zero ∷ u))) (then_more (suc b) 0 (slice_cmp nat_cmp s u) low) (Decides.more low))
text_decides (suc b ∷ s) (suc c ∷ u) =
    subst (λ (bs : List ℕ). Decides bs (text_form (suc c ∷ u)) (slice_cmp nat_cmp (suc b ∷ s) (suc c ∷ u))) (text_more b s)
    (subst (λ (bs : List ℕ). Decides (suc b ∷ text_form s) bs (slice_cmp nat_cmp (suc b ∷ s) (suc c ∷ u))) (text_more c u)
    (decides_head (suc b) (suc c) (text_decides s u)))

-- ---- a text's bytes

low_cond : (b : Bool) (xs ys : List ℕ) → (b ≡ true → IsLow xs) → (b ≡ false → IsLow ys) → IsLow (cond b xs ys)
low_cond true xs ys left right = left refl
low_cond false xs ys left right = right refl

low_char : (c : ℕ) → c < 1114112 → IsLow (encode_utf8 c)
unfolding encode_utf8
low_char c small =
    low_cond (nat_lt c 128) _ _ (λ h. (let low : c < 128 = ltb-true c 128 h in omega arith, tt))
    (λ _. low_cond (nat_lt c 2048) _ _ (λ h. let low : c < 2048 = ltb-true c 2048 h in (omega arith, (omega arith, tt)))
    (λ _. low_cond (nat_lt c 65536) _ _ (λ h. let low : c < 65536 = ltb-true c 65536 h in (omega arith, (omega arith, (omega arith, tt))))
    (λ _. (omega arith, (omega arith, (omega arith, (omega arith, tt)))))))

below_last : (c : ℕ) → scalar c ≡ true → c < 1114112
below_last c is = elim (scalar_cases c is) [ inl h ↦ omega (arith, h) | inr h ↦ h.1 ]

low_chars : (cs : List ℕ) → all_scalars cs ≡ true → IsLow (encode_utf8_all cs)
low_chars [] is = tt
low_chars (c ∷ cs) is =
    let parts : (scalar c ≡ true) × (all_scalars cs ≡ true) = and_parts (scalar c) (all_scalars cs) is in
    low_append (encode_utf8 c) (encode_utf8_all cs) (low_char c (below_last c parts.0)) (low_chars cs parts.1)

low_text : (s : List ℕ) → IsUtf8 s → IsLow s
low_text s text = subst IsLow text.1.1 (low_chars text.0 text.1.0)

low_escaped : (b : ℕ) → b ≤ 255 → IsLow (escaped b)
low_escaped b low = low_cond (b == 0) (0 ∷ 255 ∷ []) (b ∷ []) (λ _. (omega arith, (omega arith, tt))) (λ _. (low, tt))

low_form : (s : List ℕ) → IsLow s → IsLow (text_form s)
low_form [] low = (omega arith, (omega arith, tt))
low_form (b ∷ s) (low, rest) =
    subst IsLow (sym (Rattle.std.proofs.Common.append_assoc (escaped b) (flat_map escaped s) (0 ∷ 0 ∷ [])))
    (low_append (escaped b) (text_form s) (low_escaped b low) (low_form s rest))

-- ---- values

value_decides : (f : FieldType) (v w : Value) → IsTrue (fits_field f v) → IsTrue (fits_field f w)
    → IsTrue (is_value v) → IsTrue (is_value w) → Decides (normal_form v) (normal_form w) (value_cmp v w)
value_decides f (value.Long a) (value.Long b) left right one other = long_decides a b one other
value_decides f (value.Bool true) (value.Bool true) left right one other = Decides.same Decides.ends
value_decides f (value.Bool true) (value.Bool false) left right one other = Decides.more (omega arith)
value_decides f (value.Bool false) (value.Bool true) left right one other = Decides.less (omega arith)
value_decides f (value.Bool false) (value.Bool false) left right one other = Decides.same Decides.ends
value_decides f (value.Str s) (value.Str u) left right one other = text_decides s u
value_decides type.Long (value.Bool a) w left right one other = cc
value_decides type.Long (value.Str a) w left right one other = cc
value_decides type.Long v (value.Bool b) left right one other = cc
value_decides type.Long v (value.Str b) left right one other = cc
value_decides type.Bool (value.Long a) w left right one other = cc
value_decides type.Bool (value.Str a) w left right one other = cc
value_decides type.Bool v (value.Long b) left right one other = cc
value_decides type.Bool v (value.Str b) left right one other = cc
value_decides (type.Str m) (value.Long a) w left right one other = cc
value_decides (type.Str m) (value.Bool a) w left right one other = cc
value_decides (type.Str m) v (value.Long b) left right one other = cc
value_decides (type.Str m) v (value.Bool b) left right one other = cc

value_low : (v : Value) → IsTrue (is_value v) → IsLow (normal_form v)
value_low (value.Long n) is = long_low (flipped n)
value_low (value.Bool true) is = (omega arith, tt)
value_low (value.Bool false) is = (omega arith, tt)
value_low (value.Str s) is = low_form s (low_text s (IsUtf8-from_is_utf8 s (and_parts (nat_le (length s) text_limit) (is_utf8 s) is).1))

-- the forms of two values of one kind compare as the values do, and where these are equal what stands behind does
pub directed_first : (down : Bool) (f : FieldType) (v w : Value) (xs ys : List ℕ) → IsTrue (fits_field f v) → IsTrue (fits_field f w)
    → IsTrue (is_value v) → IsTrue (is_value w)
    → slice_cmp nat_cmp (directed_form down v ++ xs) (directed_form down w ++ ys)
    ≡ ordering_then (cond down (value_cmp w v) (value_cmp v w)) (slice_cmp nat_cmp xs ys)
directed_first false f v w xs ys left right one other =
    ap (λ (bs : List ℕ). slice_cmp nat_cmp (bs ++ xs) (directed_form false w ++ ys)) (plain_turned (normal_form v))
    ∙ ap (λ (bs : List ℕ). slice_cmp nat_cmp (normal_form v ++ xs) (bs ++ ys)) (plain_turned (normal_form w))
    ∙ decides_front xs ys (value_decides f v w left right one other)
directed_first true f v w xs ys left right one other =
    decides_front xs ys (decides_turned (value_low v one) (value_low w other) (value_decides f v w left right one other))
    ∙ ap (λ (o : Ordering). ordering_then o (slice_cmp nat_cmp xs ys)) (sym (value_cmp_total.antisymm w v))
