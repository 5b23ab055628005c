-- What the parts of an expression have, and how long the text of its value is.
use Rattle.std.proofs.Common.{◌≡◌, ℕ, ◌+◌, ◌≤◌, ◌<◌, true, ◌&&◌, List, length, max, refl, sym, ap, ◌∙◌, subst, arith, Option, Some, None, option_and_then, is_some, IsTrue, ◌-◌, take, drop, length-drop, ◌++◌}
use Rattle.std.proofs.lemmas.List.{length-take-le, take_at, drop_at}
use Rattle.std.proofs.lemmas.Bool.{leb-true}
use Rattle.flow_types.specs.Limits.{text_limit}
use Rattle.flow_types.specs.declared.value.Value.{Value}
use Rattle.flow_types.specs.declared.value.Value.TheVariants as value
use Rattle.flow_types.specs.declared.field_type.FieldType.{FieldType}
use Rattle.flow_types.specs.declared.field_type.FieldType.TheVariants as type
use Rattle.flow_types.specs.declared.expr.UnOp.{UnOp}
use Rattle.flow_types.specs.declared.expr.BinOp.{BinOp}
use Rattle.flow_types.specs.declared.expr.Expr.{Expr, fold-roll-Expr, ind-Expr, roll-Expr}
use Rattle.flow_types.specs.declared.expr.Expr.TheVariants as expr
use Rattle.flow_types.specs.declared.expr.Expr.TheOpen.{Expr-F}
use Rattle.flow_types.specs.declared.expr.Expr.TheFolds.{map-Expr}
use Rattle.flow_types.specs.Values.{bytes_of}
use Rattle.flow_types.specs.Tuples.{Tuple}
use Rattle.flow_types.specs.Types.{Fields, fits, fits_field}
use Rattle.flow_types.specs.Expressions.{val, node_value, apply_two}
use Rattle.flow_types.specs.ExprTypes.{Typing, typing_of, typing_layer, type_layer, narrow_layer, is_narrow_type, type_of, type_of_one, type_of_two, type_of_cut, type_of_choice, Extent, extent_of, extent_layer}
use Rattle.flow_types.proofs.ExprEquations.{fold-Un, fold-Bin, fold-If, fold-Cut}
use Rattle.flow_types.proofs.ValueLemmas.{both_true, both_pass}
use Rattle.flow_types.proofs.TypeLaws.{bound_of, value_fits}
use Rattle.expr_core.specs.declared.seen.Seen.{Seen}
use Rattle.expr_core.specs.Places.{value_in, is_inside, held}
use Rattle.expr_core.specs.Needs.{is_typed, room_of}
use Rattle.expr_core.proofs.SeenLemmas.{held_short, kept_value, more_value}

-- ---- types

bind_first : {A B : Type 0} → (f : A → Option B) (o : Option A) → is_some (option_and_then f o) ≡ true → is_some o ≡ true
bind_first f None h = cc
bind_first f (Some x) h = refl

bind_inner : {A B C : Type 0} → (f : A → Option B) (o : Option A) (p : Option C) → ((x : A) → is_some (f x) ≡ true → is_some p ≡ true)
    → is_some (option_and_then f o) ≡ true → is_some p ≡ true
bind_inner f None p k h = cc
bind_inner f (Some x) p k h = k x h

module _ (fields : Fields) where
  of_parts : (e : Expr) → is_some (type_of fields e) ≡ true → (typing_of fields e).narrow ≡ true → is_typed fields e ≡ true
  of_parts e a b = both_pass (is_some (type_of fields e)) (typing_of fields e).narrow a b

  module _ (e : Expr) (layer : Expr-F Typing) (is : typing_of fields e ≡ typing_layer fields layer) (h : is_typed fields e ≡ true) where
    has_type : is_some (type_layer fields layer) ≡ true
    has_type =
        sym (ap (λ (r : Typing). is_some r.type) is) ∙ (both_true (is_some (type_of fields e)) (typing_of fields e).narrow h).0

    has_narrow : narrow_layer layer ≡ true
    has_narrow =
        (both_true (narrow_layer layer) (is_narrow_type (type_layer fields layer))
        (sym (ap (λ (r : Typing). r.narrow) is) ∙ (both_true (is_some (type_of fields e)) (typing_of fields e).narrow h).1)).0

  typing-Un : (op : UnOp) (a : Expr) → typing_of fields (expr.Un op a) ≡ typing_layer fields (Expr-F.Un op (typing_of fields a))
  typing-Un op a = fold-Un Typing (typing_layer fields) op a

  typing-Bin : (op : BinOp) (a b : Expr) → typing_of fields (expr.Bin op a b) ≡ typing_layer fields (Expr-F.Bin op (typing_of fields a) (typing_of fields b))
  typing-Bin op a b = fold-Bin Typing (typing_layer fields) op a b

  typing-If : (c a b : Expr) → typing_of fields (expr.If c a b) ≡ typing_layer fields (Expr-F.If (typing_of fields c) (typing_of fields a) (typing_of fields b))
  typing-If c a b = fold-If Typing (typing_layer fields) c a b

  typing-Cut : (a : Expr) (n : ℕ) → typing_of fields (expr.Cut a n) ≡ typing_layer fields (Expr-F.Cut (typing_of fields a) n)
  typing-Cut a n = fold-Cut Typing (typing_layer fields) a n

  pub typed_un : (op : UnOp) (a : Expr) → is_typed fields (expr.Un op a) ≡ true → is_typed fields a ≡ true
  typed_un op a h =
      let layer : Expr-F Typing = Expr-F.Un op (typing_of fields a) in
      of_parts a (bind_first (type_of_one op) (type_of fields a) (has_type (expr.Un op a) layer (typing-Un op a) h))
      (has_narrow (expr.Un op a) layer (typing-Un op a) h)

  pub typed_cut : (a : Expr) (n : ℕ) → is_typed fields (expr.Cut a n) ≡ true → is_typed fields a ≡ true
  typed_cut a n h =
      let layer : Expr-F Typing = Expr-F.Cut (typing_of fields a) n in
      of_parts a (bind_first (type_of_cut n) (type_of fields a) (has_type (expr.Cut a n) layer (typing-Cut a n) h))
      (has_narrow (expr.Cut a n) layer (typing-Cut a n) h)

  pub typed_bin : (op : BinOp) (a b : Expr) → is_typed fields (expr.Bin op a b) ≡ true → (is_typed fields a ≡ true) × (is_typed fields b ≡ true)
  typed_bin op a b h =
      let layer : Expr-F Typing = Expr-F.Bin op (typing_of fields a) (typing_of fields b) in
      let some = has_type (expr.Bin op a b) layer (typing-Bin op a b) h in
      let narrow = both_true (typing_of fields a).narrow (typing_of fields b).narrow (has_narrow (expr.Bin op a b) layer (typing-Bin op a b) h) in (
        of_parts a (bind_first (λ (x : FieldType). option_and_then (λ (y : FieldType). type_of_two op x y) (type_of fields b)) (type_of fields a) some) narrow.0,
        of_parts b
            (bind_inner (λ (x : FieldType). option_and_then (λ (y : FieldType). type_of_two op x y) (type_of fields b)) (type_of fields a) (type_of fields b)
            (λ x k. bind_first (λ (y : FieldType). type_of_two op x y) (type_of fields b) k) some)
            narrow.1,
      )

  pub typed_if : (c a b : Expr) → is_typed fields (expr.If c a b) ≡ true
      → (is_typed fields c ≡ true) × (is_typed fields a ≡ true) × (is_typed fields b ≡ true)
  typed_if c a b h =
      let layer : Expr-F Typing = Expr-F.If (typing_of fields c) (typing_of fields a) (typing_of fields b) in
      let some = has_type (expr.If c a b) layer (typing-If c a b) h in
      let narrow = both_true ((typing_of fields c).narrow && (typing_of fields a).narrow) (typing_of fields b).narrow (has_narrow (expr.If c a b) layer (typing-If c a b) h) in
      let front = both_true (typing_of fields c).narrow (typing_of fields a).narrow narrow.0 in
      let last : FieldType → FieldType → Option FieldType = λ x y. option_and_then (λ (z : FieldType). type_of_choice x y z) (type_of fields b) in
      let middle : FieldType → Option FieldType = λ x. option_and_then (last x) (type_of fields a) in (
        of_parts c (bind_first middle (type_of fields c) some) front.0,
        of_parts a (bind_inner middle (type_of fields c) (type_of fields a) (λ x k. bind_first (last x) (type_of fields a) k) some) front.1,
        of_parts b
            (bind_inner middle (type_of fields c) (type_of fields b)
            (λ x k. bind_inner (last x) (type_of fields a) (type_of fields b) (λ y l. bind_first (λ (z : FieldType). type_of_choice x y z) (type_of fields b) l) k) some)
            narrow.1,
      )

  -- ---- the length of a value's text

  abbrev IsNarrow : Expr → Type 0
  IsNarrow e = (typing_of fields e).narrow ≡ true → is_narrow_type (type_of fields e) ≡ true

  narrow_roll : (x : Expr-F Expr) → IsNarrow (roll-Expr x)
  narrow_roll x h =
      let layer : Expr-F Typing = map-Expr Expr Typing (typing_of fields) x in
      let is : typing_of fields (roll-Expr x) ≡ typing_layer fields layer = fold-roll-Expr Typing (typing_layer fields) x in
      ap (λ (r : Typing). is_narrow_type r.type) is
      ∙ (both_true (narrow_layer layer) (is_narrow_type (type_layer fields layer)) (sym (ap (λ (r : Typing). r.narrow) is) ∙ h)).1

  narrow_type : (e : Expr) → IsNarrow e
  narrow_type = ind-Expr IsNarrow (λ x y is. subst (λ z. IsNarrow (roll-Expr z)) is (narrow_roll (map-Expr ((e : Expr) × IsNarrow e) Expr (λ e. e.0) y)))

  short_of : (v : Value) (o : Option FieldType) → is_some o ≡ true → is_narrow_type o ≡ true → ((f : FieldType) → o ≡ Some f → fits_field f v ≡ true)
      → length (bytes_of v) ≤ text_limit
  short_of v None some narrow fit = cc
  short_of (value.Long n) (Some f) some narrow fit = omega arith
  short_of (value.Bool b) (Some f) some narrow fit = omega arith
  short_of (value.Str s) (Some type.Long) some narrow fit = let e : fits_field type.Long (value.Str s) ≡ true = fit type.Long refl in cc
  short_of (value.Str s) (Some type.Bool) some narrow fit = let e : fits_field type.Bool (value.Str s) ≡ true = fit type.Bool refl in cc
  short_of (value.Str s) (Some (type.Str m)) some narrow fit =
      omega (arith, bound_of m (value.Str s) (fit (type.Str m) refl), leb-true m text_limit narrow)

  pub short_value : (t : Tuple) (e : Expr) → IsTrue (fits fields t) → IsTrue (is_typed fields e) → length (bytes_of (val t e)) ≤ text_limit
  short_value t e row h =
      let parts = both_true (is_some (type_of fields e)) (typing_of fields e).narrow h in
      short_of (val t e) (type_of fields e) parts.0 (narrow_type e parts.1) (value_fits fields t row e)

-- ---- room

lists-Un : (op : UnOp) (a : Expr) → (extent_of (expr.Un op a)).lists ≡ 1 + (extent_of a).lists
lists-Un op a = ap (λ (r : Extent). r.lists) (fold-Un Extent extent_layer op a)

lists-Bin : (op : BinOp) (a b : Expr) → (extent_of (expr.Bin op a b)).lists ≡ 1 + max (extent_of a).lists (extent_of b).lists
lists-Bin op a b = ap (λ (r : Extent). r.lists) (fold-Bin Extent extent_layer op a b)

lists-If : (c a b : Expr) → (extent_of (expr.If c a b)).lists ≡ 1 + max (extent_of c).lists (max (extent_of a).lists (extent_of b).lists)
lists-If c a b = ap (λ (r : Extent). r.lists) (fold-If Extent extent_layer c a b)

lists-Cut : (a : Expr) (n : ℕ) → (extent_of (expr.Cut a n)).lists ≡ 1 + (extent_of a).lists
lists-Cut a n = ap (λ (r : Extent). r.lists) (fold-Cut Extent extent_layer a n)

pub room_un : (op : UnOp) (a : Expr) → text_limit + room_of a ≤ room_of (expr.Un op a)
room_un op a = omega (arith, lists-Un op a)

pub room_bin : (op : BinOp) (a b : Expr) → (text_limit + room_of a ≤ room_of (expr.Bin op a b)) × (text_limit + room_of b ≤ room_of (expr.Bin op a b))
room_bin op a b = (omega (arith, lists-Bin op a b), omega (arith, lists-Bin op a b))

pub room_if : (c a b : Expr) → (room_of c ≤ room_of (expr.If c a b)) × (room_of a ≤ room_of (expr.If c a b)) × (room_of b ≤ room_of (expr.If c a b))
room_if c a b = (omega (arith, lists-If c a b), omega (arith, lists-If c a b), omega (arith, lists-If c a b))

pub room_cut : (a : Expr) (n : ℕ) → room_of a ≤ room_of (expr.Cut a n)
room_cut a n = omega (arith, lists-Cut a n)

-- ---- the second and third part of an expression, by what is known where they are evaluated

module _ (fields : Fields) (e : Expr) where
  pub typed_right : (op : BinOp) (a b part : Expr) → part ≡ b → e ≡ expr.Bin op a b → IsTrue (is_typed fields e) → IsTrue (is_typed fields part)
  typed_right op a b part this is h = ap (is_typed fields) this ∙ (typed_bin fields op a b (sym (ap (is_typed fields) is) ∙ h)).1

  pub typed_then : (c a b part : Expr) → part ≡ a → e ≡ expr.If c a b → IsTrue (is_typed fields e) → IsTrue (is_typed fields part)
  typed_then c a b part this is h = ap (is_typed fields) this ∙ (typed_if fields c a b (sym (ap (is_typed fields) is) ∙ h)).1

  pub typed_else : (c a b part : Expr) → part ≡ b → e ≡ expr.If c a b → IsTrue (is_typed fields e) → IsTrue (is_typed fields part)
  typed_else c a b part this is h = ap (is_typed fields) this ∙ (typed_if fields c a b (sym (ap (is_typed fields) is) ∙ h)).2

pub room_then : (e c a b part : Expr) (now old : ℕ) → part ≡ a → e ≡ expr.If c a b → room_of e ≤ old → now ≡ old → room_of part ≤ now
room_then e c a b part now old this is low same = omega (arith, ap room_of this, ap room_of is, (room_if c a b).1, low, same)

pub room_else : (e c a b part : Expr) (now old : ℕ) → part ≡ b → e ≡ expr.If c a b → room_of e ≤ old → now ≡ old → room_of part ≤ now
room_else e c a b part now old this is low same = omega (arith, ap room_of this, ap room_of is, (room_if c a b).2, low, same)

-- the room that is left behind a text that is held
pub room_right : (e : Expr) (op : BinOp) (a b part : Expr) (bytes room : List ℕ) (s : Seen) (v : Value) (h old : ℕ)
    → part ≡ b → e ≡ expr.Bin op a b → room_of e ≤ old → length room ≡ old → h ≡ held s
    → IsTrue (is_inside bytes room s) → value_in bytes room s ≡ v → length (bytes_of v) ≤ text_limit
    → room_of part ≤ length (take (length room - h) (drop h room))
room_right e op a b part bytes room s v h old this is low long held inside value short =
    let few : h ≤ text_limit = omega (arith, held, held_short bytes room s v text_limit inside value short) in
    let rest : length (take (length room - h) (drop h room)) ≡ length room - h =
    length-take-le (length room - h) (drop h room) (omega (arith, length-drop h room)) in
    omega (arith, rest, ap room_of this, ap room_of is, (room_bin op a b).1, low, long, few)

-- ---- both values of an operation, in the room as it is behind the evaluation of the second

module _ (bytes mid rest post : List ℕ) (h : ℕ) (t : Tuple) (op : BinOp) (x y : Seen) (e a b first second : Expr) (fields : Fields)
    (is : e ≡ expr.Bin op a b) (first_is : first ≡ a) (second_is : second ≡ b) (held_is : h ≡ held x)
    (x_inside : IsTrue (is_inside bytes mid x)) (y_inside : IsTrue (is_inside bytes rest y))
    (x_is : value_in bytes mid x ≡ val t first) (y_is : value_in bytes rest y ≡ val t second)
    (low : h ≤ length mid) where
  both_values : apply_two op (value_in bytes (take h mid ++ (rest ++ post)) x) (value_in bytes (drop (held x) (take h mid ++ (rest ++ post))) y) ≡ val t e
  both_values =
      let after : List ℕ = take h mid ++ (rest ++ post) in
      let front : take (held x) after ≡ take (held x) mid =
      ap (λ (n : ℕ). take n after) (sym held_is) ∙ take_at (take h mid) (rest ++ post) h (length-take-le h mid low) ∙ ap (λ (n : ℕ). take n mid) held_is in
      let behind : drop (held x) after ≡ rest ++ post =
      ap (λ (n : ℕ). drop n after) (sym held_is) ∙ drop_at (take h mid) (rest ++ post) h (length-take-le h mid low) in
      let left : value_in bytes after x ≡ val t a = kept_value bytes mid after x front ∙ x_is ∙ ap (val t) first_is in
      let right : value_in bytes (drop (held x) after) y ≡ val t b =
      ap (λ (room : List ℕ). value_in bytes room y) behind ∙ more_value bytes rest post y y_inside ∙ y_is ∙ ap (val t) second_is in
      ap (λ (v : Value). apply_two op v (value_in bytes (drop (held x) after) y)) left
      ∙ ap (apply_two op (val t a)) right
      ∙ sym (fold-Bin Value (node_value t) op a b)
      ∙ ap (val t) (sym is)

  pub both_short : IsTrue (fits fields t) → IsTrue (is_typed fields e)
      → length (bytes_of (apply_two op (value_in bytes (take h mid ++ (rest ++ post)) x) (value_in bytes (drop (held x) (take h mid ++ (rest ++ post))) y))) ≤ text_limit
  both_short row typed = omega (arith, ap (λ (v : Value). length (bytes_of v)) both_values, short_value fields t e row typed)

  pub both_done : (v : Value) → v ≡ apply_two op (value_in bytes (take h mid ++ (rest ++ post)) x) (value_in bytes (drop (held x) (take h mid ++ (rest ++ post))) y) → v ≡ val t e
  both_done v done = done ∙ both_values

-- ---- the parts of a part are fewer

abbrev pub parts_of : Expr → ℕ
parts_of e = (extent_of e).parts

pub parts_right : (e : Expr) (op : BinOp) (a b part : Expr) → part ≡ b → e ≡ expr.Bin op a b → parts_of part < parts_of e
parts_right e op a b part this is =
    omega (arith, ap parts_of this, ap parts_of is, ap (λ (r : Extent). r.parts) (fold-Bin Extent extent_layer op a b))

pub parts_then : (e c a b part : Expr) → part ≡ a → e ≡ expr.If c a b → parts_of part < parts_of e
parts_then e c a b part this is =
    omega (arith, ap parts_of this, ap parts_of is, ap (λ (r : Extent). r.parts) (fold-If Extent extent_layer c a b))

pub parts_else : (e c a b part : Expr) → part ≡ b → e ≡ expr.If c a b → parts_of part < parts_of e
parts_else e c a b part this is =
    omega (arith, ap parts_of this, ap parts_of is, ap (λ (r : Extent). r.parts) (fold-If Extent extent_layer c a b))
