-- An expression's value is one that a field can hold.
use Rattle.std.proofs.Common.{◌≡◌, ◌+◌, ◌<◌, ◌≤◌, ◌^◌, Bool, true, false, cond, ◌&&◌, length, refl, sym, ap, ◌∙◌, subst, arith, Some, zero, suc}
use Rattle.std.specs.Prelude.{IsTrue, FitsSigned, ℤ, pos, negsuc, int_rem, unsigned_abs}
use Rattle.std.specs.Int.{w64}
use Rattle.std.specs.Ordering.{int_eq}
use Rattle.std.specs.List.{list_all}
use Rattle.std.proofs.lemmas.Bool.Decides.{nat_tests}
use Rattle.std.proofs.lemmas.Int.{rem_below, fits_signed_from_abs}
use Rattle.std.proofs.lemmas.Option.{option_and_then_some}
use Rattle.flow_types.specs.Limits.{text_limit}
use Rattle.flow_types.specs.declared.value.Value.{Value}
use Rattle.flow_types.specs.declared.value.Value.TheVariants as value
use Rattle.flow_types.specs.declared.field_type.FieldType.{FieldType}
use Rattle.flow_types.specs.declared.field_type.FieldType.TheVariants as type
use Rattle.flow_types.specs.declared.expr.UnOp.{UnOp}
use Rattle.flow_types.specs.declared.expr.UnOp.TheVariants as un
use Rattle.flow_types.specs.declared.expr.BinOp.{BinOp}
use Rattle.flow_types.specs.declared.expr.BinOp.TheVariants as bin
use Rattle.flow_types.specs.declared.expr.Expr.{Expr, fold-roll-Expr, ind-Expr, roll-Expr}
use Rattle.flow_types.specs.declared.expr.Expr.TheOpen.{Expr-F}
use Rattle.flow_types.specs.declared.expr.Expr.TheFolds.{map-Expr}
use Rattle.flow_types.specs.Values.{is_long, is_text, is_value, long_of, bytes_of, flag_of}
use Rattle.flow_types.specs.Tuples.{Tuple}
use Rattle.flow_types.specs.Types.{Fields, fits, fits_field}
use Rattle.flow_types.specs.Expressions.{val, node_value, div, rem, apply_one, apply_two}
use Rattle.flow_types.specs.ExprTypes.{Typing, typing_of, typing_layer, type_layer, narrow_layer, is_narrow_type, type_of, type_of_one, type_of_two, type_of_cut}
use Rattle.flow_types.specs.LawsOfTypes.{has_values, literals_layer, HasType}
use Rattle.flow_types.proofs.ValueLemmas.{both_true, long-wrap, long-zero, long-pos, long_from_fits, fits_from_long, long-long_of, value-field}
use Rattle.flow_types.proofs.TextLemmas.{text-nil, text-le, text-cut, text-append}
use Rattle.flow_types.proofs.TypeLaws.{bound_of, value_fits}

-- ---- arithmetic

long-one_of : (b : Bool) (m n : ℤ) → IsTrue (is_long m) → IsTrue (is_long n) → IsTrue (is_long (cond b m n))
long-one_of true m n p q = p
long-one_of false m n p q = q

pub long-div : (a b : ℤ) → IsTrue (is_long (div a b))
long-div a b = long-one_of (int_eq b (pos 0)) (pos 0) _ long-zero (long-wrap _)

abs-le : (n : ℤ) → FitsSigned w64 n → unsigned_abs n ≤ 2 ^ 63
abs-le (pos n) fits = omega (arith, fits.sfits)
abs-le (negsuc n) fits = omega (arith, fits.sfits)

abs-positive : (n : ℤ) → int_eq n (pos 0) ≡ false → 0 < unsigned_abs n
abs-positive (pos zero) h = cc
abs-positive (pos (suc n)) h = omega arith
abs-positive (negsuc n) h = omega arith

pub long-rem : (a b : ℤ) → IsTrue (is_long b) → IsTrue (is_long (rem a b))
long-rem a b long = go (int_eq b (pos 0)) refl
  where
    go : (z : Bool) → int_eq b (pos 0) ≡ z → IsTrue (is_long (cond z (pos 0) (int_rem a b)))
    go true e = long-zero
    go false e = long_from_fits (int_rem a b) (fits_signed_from_abs w64 (int_rem a b) (omega (arith, rem_below a b (abs-positive b e), abs-le b (fits_from_long b long))))

-- ---- the forms of expressions

text-bytes_of : (v : Value) → is_value v ≡ true → IsTrue (is_text (bytes_of v))
text-bytes_of (value.Long n) h = text-nil
text-bytes_of (value.Bool b) h = text-nil
text-bytes_of (value.Str s) h = h

value-one : (op : UnOp) (v : Value) → is_value v ≡ true → is_value (apply_one op v) ≡ true
value-one un.Not v h = refl
value-one un.Len v h = long-pos (length (bytes_of v)) (omega (arith, text-le (bytes_of v) (text-bytes_of v h)))

value-cat : (g h f : FieldType) (v w : Value) → type_of_two bin.Cat g h ≡ Some f → is_narrow_type (Some f) ≡ true → fits_field g v ≡ true → fits_field h w ≡ true → is_value v ≡ true → is_value w ≡ true → is_value (apply_two bin.Cat v w) ≡ true
value-cat (type.Str m) (type.Str n) f v w e narrow p q x y =
    let bound : is_narrow_type (Some (type.Str (m + n))) ≡ true = ap is_narrow_type e ∙ narrow in
    let low : m + n ≤ text_limit = grind (arith, nat_tests) in
    text-append (bytes_of v) (bytes_of w) (text-bytes_of v x) (text-bytes_of w y) (omega (arith, bound_of m v p, bound_of n w q))
value-cat (type.Str m) type.Long f v w e narrow p q x y = cc
value-cat (type.Str m) type.Bool f v w e narrow p q x y = cc
value-cat type.Long h f v w e narrow p q x y = cc
value-cat type.Bool h f v w e narrow p q x y = cc

value-two : (op : BinOp) (g h f : FieldType) (v w : Value) → type_of_two op g h ≡ Some f → is_narrow_type (Some f) ≡ true → fits_field g v ≡ true → fits_field h w ≡ true → is_value v ≡ true → is_value w ≡ true → is_value (apply_two op v w) ≡ true
value-two bin.Add g h f v w e narrow p q x y = long-wrap _
value-two bin.Sub g h f v w e narrow p q x y = long-wrap _
value-two bin.Mul g h f v w e narrow p q x y = long-wrap _
value-two bin.Div g h f v w e narrow p q x y = long-div (long_of v) (long_of w)
value-two bin.Rem g h f v w e narrow p q x y = long-rem (long_of v) (long_of w) (long-long_of w y)
value-two bin.Eq g h f v w e narrow p q x y = refl
value-two bin.Ne g h f v w e narrow p q x y = refl
value-two bin.Lt g h f v w e narrow p q x y = refl
value-two bin.Le g h f v w e narrow p q x y = refl
value-two bin.Gt g h f v w e narrow p q x y = refl
value-two bin.Ge g h f v w e narrow p q x y = refl
value-two bin.And g h f v w e narrow p q x y = refl
value-two bin.Or g h f v w e narrow p q x y = refl
value-two bin.Cat g h f v w e narrow p q x y = value-cat g h f v w e narrow p q x y

value-choice : (b : Bool) (v w : Value) → is_value v ≡ true → is_value w ≡ true → is_value (cond b v w) ≡ true
value-choice true v w x y = x
value-choice false v w x y = y

-- ---- all expressions

abbrev pub IsGood : Fields → Tuple → Expr → Type 0
IsGood fields t e = (f : FieldType) → type_of fields e ≡ Some f → (typing_of fields e).narrow ≡ true → has_values e ≡ true → is_value (val t e) ≡ true

module _ (fields : Fields) (t : Tuple) where
  from_layer : (x : Expr-F Expr) → ((f : FieldType) → type_layer fields (map-Expr Expr Typing (typing_of fields) x) ≡ Some f → narrow_layer (map-Expr Expr Typing (typing_of fields) x) ≡ true → is_narrow_type (Some f) ≡ true → literals_layer (map-Expr Expr Bool has_values x) ≡ true → is_value (node_value t (map-Expr Expr Value (val t) x)) ≡ true) → IsGood fields t (roll-Expr x)
  from_layer x h f e narrow literals =
      let layer : Expr-F Typing = map-Expr Expr Typing (typing_of fields) x in
      let typed : typing_of fields (roll-Expr x) ≡ typing_layer fields layer = fold-roll-Expr Typing (typing_layer fields) x in
      let type_is : type_layer fields layer ≡ Some f = sym (ap (λ (r : Typing). r.type) typed) ∙ e in
      let both = both_true (narrow_layer layer) (is_narrow_type (type_layer fields layer)) (sym (ap (λ (r : Typing). r.narrow) typed) ∙ narrow) in
      subst (λ v. is_value v ≡ true) (sym (fold-roll-Expr Value (node_value t) x)) (h f type_is both.0 (sym (ap is_narrow_type type_is) ∙ both.1) (sym (fold-roll-Expr Bool literals_layer x) ∙ literals))

  module _ (row : fits fields t ≡ true) (values : list_all is_value t ≡ true) where
    good_roll : (y : Expr-F ((e : Expr) × IsGood fields t e)) → IsGood fields t (roll-Expr (map-Expr ((e : Expr) × IsGood fields t e) Expr (λ e. e.0) y))
    good_roll (Expr-F.Lit v) = from_layer (Expr-F.Lit v) (λ f e n m l. l)
    good_roll (Expr-F.Field k) = from_layer (Expr-F.Field k) (λ f e n m l. value-field k t values)
    good_roll (Expr-F.Un op a) =
        from_layer (Expr-F.Un op a.0) (λ f e n m l. option_and_then_some (type_of_one op) (type_of fields a.0) f e (λ g p q. value-one op (val t a.0) (a.1 g p n l)))
    good_roll (Expr-F.Bin op a b) =
        from_layer (Expr-F.Bin op a.0 b.0) (λ f e n m l. option_and_then_some _ (type_of fields a.0) f e (λ g p q. option_and_then_some _ (type_of fields b.0) f q (λ h r s.
        let narrow = both_true (typing_of fields a.0).narrow (typing_of fields b.0).narrow n in
        let literals = both_true (has_values a.0) (has_values b.0) l in
        value-two op g h f (val t a.0) (val t b.0) s m (value_fits fields t row a.0 g p) (value_fits fields t row b.0 h r) (a.1 g p narrow.0 literals.0) (b.1 h r narrow.1 literals.1))))
    good_roll (Expr-F.If c a b) =
        from_layer (Expr-F.If c.0 a.0 b.0) (λ f e n m l. option_and_then_some _ (type_of fields c.0) f e (λ k o z. option_and_then_some _ (type_of fields a.0) f z (λ g p q. option_and_then_some _ (type_of fields b.0) f q (λ h r s.
        let narrow = both_true ((typing_of fields c.0).narrow && (typing_of fields a.0).narrow) (typing_of fields b.0).narrow n in
        let literals = both_true (has_values c.0 && has_values a.0) (has_values b.0) l in
        let left = a.1 g p (both_true (typing_of fields c.0).narrow (typing_of fields a.0).narrow narrow.0).1 (both_true (has_values c.0) (has_values a.0) literals.0).1 in
        value-choice (flag_of (val t c.0)) (val t a.0) (val t b.0) left (b.1 h r narrow.1 literals.1)))))
    good_roll (Expr-F.Cut a n) =
        from_layer (Expr-F.Cut a.0 n) (λ f e narrow m l. option_and_then_some (type_of_cut n) (type_of fields a.0) f e (λ g p q. text-cut n (bytes_of (val t a.0)) (text-bytes_of (val t a.0) (a.1 g p narrow l))))

    -- what has a type, no part wider than a text, and values as literals, has a value that a field can hold
    pub value_good : (e : Expr) → IsGood fields t e
    value_good = ind-Expr (IsGood fields t) (λ x y is. subst (λ z. IsGood fields t (roll-Expr z)) is (good_roll y))

    pub typed_value : (e : Expr) (f : FieldType) → HasType fields e f → is_value (val t e) ≡ true
    typed_value e f h = value_good e f h.typed h.narrow h.literals
