-- An expression's value fits its type.
use Rattle.std.proofs.Common.{cond, ℤ, ◌≡◌, ℕ, ◌+◌, ◌≤◌, Bool, true, false, List, [], ◌∷◌, ◌++◌, length, max, min, refl, sym, ap, ◌∙◌, subst, arith, zero, suc, Some, length-append}
use Rattle.std.specs.Prelude.{slice_get}
use Rattle.std.proofs.lemmas.Bool.Decides.{nat_tests}
use Rattle.flow_types.specs.declared.value.Value.{Value}
use Rattle.flow_types.specs.declared.value.Value.TheVariants as value
use Rattle.flow_types.specs.declared.field_type.FieldType.{FieldType}
use Rattle.flow_types.specs.declared.field_type.FieldType.TheVariants as type
use Rattle.flow_types.specs.declared.expr.UnOp.{UnOp}
use Rattle.flow_types.specs.declared.expr.UnOp.TheVariants as un
use Rattle.flow_types.specs.declared.expr.BinOp.{BinOp}
use Rattle.flow_types.specs.declared.expr.BinOp.TheVariants as bin
use Rattle.flow_types.specs.declared.expr.Expr.{Expr, fold-roll-Expr, ind-Expr, roll-Expr}
use Rattle.flow_types.specs.declared.expr.Expr.TheOpen.{Expr-F}
use Rattle.flow_types.specs.declared.expr.Expr.TheFolds.{map-Expr}
use Rattle.flow_types.specs.Values.{bytes_of, flag_of}
use Rattle.flow_types.specs.Tuples.{Tuple, field}
use Rattle.flow_types.specs.Types.{Fields, fits, fits_field}
use Rattle.flow_types.specs.Expressions.{val, node_value, cut, apply_one, apply_two}
use Rattle.flow_types.specs.ExprTypes.{Typing, typing_of, typing_layer, type_layer, type_of, type_of_value, widened, type_of_one, type_of_two, type_of_choice, type_of_cut, compared, both_long, both_bool, joined}
use Rattle.std.proofs.lemmas.Option.{option_and_then_some}
use Rattle.flow_types.proofs.ValueLemmas.{both_true}
use Rattle.flow_types.proofs.TextLemmas.{cut-le, cut-le-length}

-- the type of an expression, at the value of a type that is the same
at_type : (g f : FieldType) (v : Value) → Some g ≡ Some f → fits_field g v ≡ true → fits_field f v ≡ true
at_type g f v e h = let same : g ≡ f = cc in subst (λ k. fits_field k v ≡ true) same h

-- ---- bounds of texts

pub bound_of : (m : ℕ) (v : Value) → fits_field (type.Str m) v ≡ true → length (bytes_of v) ≤ m
bound_of m (value.Long n) h = cc
bound_of m (value.Bool b) h = cc
bound_of m (value.Str s) h = grind (arith, nat_tests)

within : (m : ℕ) (s : List ℕ) → length s ≤ m → fits_field (type.Str m) (value.Str s) ≡ true
within m s h = grind (arith, nat_tests)

-- a text within a bound is within a larger one
wider : (m n : ℕ) (v : Value) → m ≤ n → fits_field (type.Str m) v ≡ true → fits_field (type.Str n) v ≡ true
wider m n (value.Long k) low h = cc
wider m n (value.Bool b) low h = cc
wider m n (value.Str s) low h = within n s (omega (arith, bound_of m (value.Str s) h))

-- one of two values
one_of : (g : FieldType) (v w : Value) (b : Bool) → fits_field g v ≡ true → fits_field g w ≡ true → fits_field g (cond b v w) ≡ true
one_of g v w true p q = p
one_of g v w false p q = q

-- ---- the forms of expressions

fits-own : (v : Value) → fits_field (type_of_value v) v ≡ true
fits-own (value.Long n) = refl
fits-own (value.Bool b) = refl
fits-own (value.Str s) = within (length s) s (omega arith)

fits-field : (fields : Fields) (t : Tuple) (k : ℕ) (f : FieldType) → fits fields t ≡ true → slice_get fields k ≡ Some f → fits_field f (field k t) ≡ true
fits-field [] t k f h e = cc
fits-field (g ∷ fields) [] k f h e = cc
fits-field (g ∷ fields) (v ∷ t) zero f h e = at_type g f v e (both_true (fits_field g v) (fits fields t) h).0
fits-field (g ∷ fields) (v ∷ t) (suc k) f h e = fits-field fields t k f (both_true (fits_field g v) (fits fields t) h).1 e

fits-one : (op : UnOp) (g f : FieldType) (v : Value) → type_of_one op g ≡ Some f → fits_field f (apply_one op v) ≡ true
fits-one un.Not type.Long f v e = cc
fits-one un.Not type.Bool f v e = at_type type.Bool f _ e refl
fits-one un.Not (type.Str n) f v e = cc
fits-one un.Len type.Long f v e = cc
fits-one un.Len type.Bool f v e = cc
fits-one un.Len (type.Str n) f v e = at_type type.Long f _ e refl

fits-both_long : (g h f : FieldType) (n : ℤ) → both_long g h ≡ Some f → fits_field f (value.Long n) ≡ true
fits-both_long type.Long type.Long f n e = at_type type.Long f (value.Long n) e refl
fits-both_long type.Long type.Bool f n e = cc
fits-both_long type.Long (type.Str k) f n e = cc
fits-both_long type.Bool h f n e = cc
fits-both_long (type.Str m) h f n e = cc

fits-both_bool : (g h f : FieldType) (b : Bool) → both_bool g h ≡ Some f → fits_field f (value.Bool b) ≡ true
fits-both_bool type.Bool type.Bool f b e = at_type type.Bool f (value.Bool b) e refl
fits-both_bool type.Bool type.Long f b e = cc
fits-both_bool type.Bool (type.Str k) f b e = cc
fits-both_bool type.Long h f b e = cc
fits-both_bool (type.Str m) h f b e = cc

fits-compared : (g h f : FieldType) (b : Bool) → compared g h ≡ Some f → fits_field f (value.Bool b) ≡ true
fits-compared type.Long type.Long f b e = at_type type.Bool f (value.Bool b) e refl
fits-compared type.Long type.Bool f b e = cc
fits-compared type.Long (type.Str k) f b e = cc
fits-compared type.Bool type.Bool f b e = at_type type.Bool f (value.Bool b) e refl
fits-compared type.Bool type.Long f b e = cc
fits-compared type.Bool (type.Str k) f b e = cc
fits-compared (type.Str m) (type.Str k) f b e = at_type type.Bool f (value.Bool b) e refl
fits-compared (type.Str m) type.Long f b e = cc
fits-compared (type.Str m) type.Bool f b e = cc

fits-joined : (g h f : FieldType) (v w : Value) → joined g h ≡ Some f → fits_field g v ≡ true → fits_field h w ≡ true → fits_field f (value.Str (bytes_of v ++ bytes_of w)) ≡ true
fits-joined (type.Str m) (type.Str n) f v w e p q =
    at_type (type.Str (m + n)) f (value.Str (bytes_of v ++ bytes_of w)) e (within (m + n) (bytes_of v ++ bytes_of w) (omega (arith, length-append (bytes_of v) (bytes_of w), bound_of m v p, bound_of n w q)))
fits-joined (type.Str m) type.Long f v w e p q = cc
fits-joined (type.Str m) type.Bool f v w e p q = cc
fits-joined type.Long h f v w e p q = cc
fits-joined type.Bool h f v w e p q = cc

fits-two : (op : BinOp) (g h f : FieldType) (v w : Value) → type_of_two op g h ≡ Some f → fits_field g v ≡ true → fits_field h w ≡ true → fits_field f (apply_two op v w) ≡ true
fits-two bin.Add g h f v w e p q = fits-both_long g h f _ e
fits-two bin.Sub g h f v w e p q = fits-both_long g h f _ e
fits-two bin.Mul g h f v w e p q = fits-both_long g h f _ e
fits-two bin.Div g h f v w e p q = fits-both_long g h f _ e
fits-two bin.Rem g h f v w e p q = fits-both_long g h f _ e
fits-two bin.Eq g h f v w e p q = fits-compared g h f _ e
fits-two bin.Ne g h f v w e p q = fits-compared g h f _ e
fits-two bin.Lt g h f v w e p q = fits-compared g h f _ e
fits-two bin.Le g h f v w e p q = fits-compared g h f _ e
fits-two bin.Gt g h f v w e p q = fits-compared g h f _ e
fits-two bin.Ge g h f v w e p q = fits-compared g h f _ e
fits-two bin.And g h f v w e p q = fits-both_bool g h f _ e
fits-two bin.Or g h f v w e p q = fits-both_bool g h f _ e
fits-two bin.Cat g h f v w e p q = fits-joined g h f v w e p q

-- one of two values fits the widened type
fits-widened : (b : Bool) (g h f : FieldType) (v w : Value) → widened g h ≡ Some f → fits_field g v ≡ true → fits_field h w ≡ true → fits_field f (cond b v w) ≡ true
fits-widened b type.Long type.Long f v w e p q = at_type type.Long f (cond b v w) e (one_of type.Long v w b p q)
fits-widened b type.Bool type.Bool f v w e p q = at_type type.Bool f (cond b v w) e (one_of type.Bool v w b p q)
fits-widened b (type.Str m) (type.Str n) f v w e p q =
    at_type (type.Str (max m n)) f (cond b v w) e (one_of (type.Str (max m n)) v w b (wider m (max m n) v (omega arith) p) (wider n (max m n) w (omega arith) q))
fits-widened b type.Long type.Bool f v w e p q = cc
fits-widened b type.Long (type.Str n) f v w e p q = cc
fits-widened b type.Bool type.Long f v w e p q = cc
fits-widened b type.Bool (type.Str n) f v w e p q = cc
fits-widened b (type.Str m) type.Long f v w e p q = cc
fits-widened b (type.Str m) type.Bool f v w e p q = cc

fits-choice : (b : Bool) (c g h f : FieldType) (v w : Value) → type_of_choice c g h ≡ Some f → fits_field g v ≡ true → fits_field h w ≡ true → fits_field f (cond b v w) ≡ true
fits-choice b type.Bool g h f v w e p q = fits-widened b g h f v w e p q
fits-choice b type.Long g h f v w e p q = cc
fits-choice b (type.Str n) g h f v w e p q = cc

fits-cut : (n : ℕ) (g f : FieldType) (v : Value) → type_of_cut n g ≡ Some f → fits_field g v ≡ true → fits_field f (value.Str (cut n (bytes_of v))) ≡ true
fits-cut n type.Long f v e p = cc
fits-cut n type.Bool f v e p = cc
fits-cut n (type.Str m) f v e p =
    at_type (type.Str (min m n)) f (value.Str (cut n (bytes_of v))) e (within (min m n) (cut n (bytes_of v)) (omega (arith, cut-le n (bytes_of v), cut-le-length n (bytes_of v), bound_of m v p)))

-- ---- all expressions

abbrev pub IsFit : Fields → Tuple → Expr → Type 0
IsFit fields t e = (f : FieldType) → type_of fields e ≡ Some f → fits_field f (val t e) ≡ true

module _ (fields : Fields) (t : Tuple) where
  from_layer : (x : Expr-F Expr) → ((f : FieldType) → type_layer fields (map-Expr Expr Typing (typing_of fields) x) ≡ Some f → fits_field f (node_value t (map-Expr Expr Value (val t) x)) ≡ true) → IsFit fields t (roll-Expr x)
  from_layer x h f e =
      subst (λ v. fits_field f v ≡ true) (sym (fold-roll-Expr Value (node_value t) x)) (h f (sym (ap (λ (r : Typing). r.type) (fold-roll-Expr Typing (typing_layer fields) x)) ∙ e))

  module _ (row : fits fields t ≡ true) where
    fit_roll : (y : Expr-F ((e : Expr) × IsFit fields t e)) → IsFit fields t (roll-Expr (map-Expr ((e : Expr) × IsFit fields t e) Expr (λ e. e.0) y))
    fit_roll (Expr-F.Lit v) = from_layer (Expr-F.Lit v) (λ f e. at_type (type_of_value v) f v e (fits-own v))
    fit_roll (Expr-F.Field k) = from_layer (Expr-F.Field k) (λ f e. fits-field fields t k f row e)
    fit_roll (Expr-F.Un op a) =
        from_layer (Expr-F.Un op a.0) (λ f e. option_and_then_some (type_of_one op) (type_of fields a.0) f e (λ g p q. fits-one op g f (val t a.0) q))
    fit_roll (Expr-F.Bin op a b) =
        from_layer (Expr-F.Bin op a.0 b.0) (λ f e. option_and_then_some _ (type_of fields a.0) f e (λ g p q. option_and_then_some _ (type_of fields b.0) f q (λ h r s. fits-two op g h f (val t a.0) (val t b.0) s (a.1 g p) (b.1 h r))))
    fit_roll (Expr-F.If c a b) =
        from_layer (Expr-F.If c.0 a.0 b.0) (λ f e. option_and_then_some _ (type_of fields c.0) f e (λ k o l. option_and_then_some _ (type_of fields a.0) f l (λ g p q. option_and_then_some _ (type_of fields b.0) f q (λ h r s. fits-choice (flag_of (val t c.0)) k g h f (val t a.0) (val t b.0) s (a.1 g p) (b.1 h r)))))
    fit_roll (Expr-F.Cut a n) =
        from_layer (Expr-F.Cut a.0 n) (λ f e. option_and_then_some (type_of_cut n) (type_of fields a.0) f e (λ g p q. fits-cut n g f (val t a.0) q (a.1 g p)))

    -- what has a type has a value that fits it
    pub value_fits : (e : Expr) → IsFit fields t e
    value_fits = ind-Expr (IsFit fields t) (λ x y is. subst (λ z. IsFit fields t (roll-Expr z)) is (fit_roll y))
