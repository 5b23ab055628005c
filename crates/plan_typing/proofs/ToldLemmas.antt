-- What is told of an expression comes from what is told of its parts.
use Rattle.std.proofs.Common.{◌≡◌, ℕ, Bool, ◌&&◌, nat_le, Option, Some, None, refl, sym, ap, ◌∙◌, arith}
use Rattle.std.specs.Prelude.{min, option_map}
use Rattle.std.proofs.lemmas.Bool.Decides.{nat_tests}
use Rattle.flow_types.specs.Limits.{text_limit}
use Rattle.flow_types.specs.declared.field_type.FieldType.{FieldType}
use Rattle.flow_types.specs.declared.field_type.FieldType.TheVariants as type
use Rattle.flow_types.specs.declared.expr.BinOp.{BinOp}
use Rattle.flow_types.specs.declared.expr.BinOp.TheVariants as bin
use Rattle.flow_types.specs.declared.expr.Expr.{Expr}
use Rattle.flow_types.specs.declared.expr.Expr.TheVariants as expr
use Rattle.flow_types.specs.Types.{Fields}
use Rattle.flow_types.specs.ExprTypes.{◌>>=◌, Typing, typing_of, typing_layer, is_narrow_type, widened, compared, both_long, both_bool, joined, type_of_two, type_of_choice}
use Rattle.flow_types.proofs.ExprEquations.{fold-Bin, fold-If}
use Rattle.plan_typing.specs.Told.{told_limit, capped, told, told_type, told_two, told_choice}

-- a bound is past a text's limit exactly where what is told of it is
pub bound_told : (m : ℕ) → nat_le (min m told_limit) text_limit ≡ nat_le m text_limit
bound_told m = grind (arith, nat_tests)

narrow_told : (t : Option FieldType) → is_narrow_type (option_map capped t) ≡ is_narrow_type t
narrow_told None = refl
narrow_told (Some type.Long) = refl
narrow_told (Some type.Bool) = refl
narrow_told (Some (type.Str m)) = bound_told m

-- types that are told alike have one typing
told_same : (s t : Option FieldType) (narrow : Bool) → option_map capped s ≡ option_map capped t → told_type s narrow ≡ told_type t narrow
told_same s t narrow e =
    let same : is_narrow_type s ≡ is_narrow_type t = sym (narrow_told s) ∙ ap is_narrow_type e ∙ narrow_told t in
    cc

capped_twice : (t : FieldType) → capped (capped t) ≡ capped t
capped_twice type.Long = refl
capped_twice type.Bool = refl
capped_twice (type.Str m) = ap type.Str (omega arith)

told_twice : (t : Option FieldType) → option_map capped (option_map capped t) ≡ option_map capped t
told_twice None = refl
told_twice (Some t) = ap Some (capped_twice t)

-- what is told of a type that was told is the same
pub told_capped : (t : Option FieldType) (narrow : Bool) → told_type (option_map capped t) narrow ≡ told_type t narrow
told_capped t narrow = told_same (option_map capped t) t narrow (told_twice t)

-- Operations on two

capped_long : (a b : FieldType) → both_long (capped a) (capped b) ≡ both_long a b
capped_long type.Long type.Long = refl
capped_long type.Long type.Bool = refl
capped_long type.Long (type.Str n) = refl
capped_long type.Bool b = refl
capped_long (type.Str m) b = refl

capped_bool : (a b : FieldType) → both_bool (capped a) (capped b) ≡ both_bool a b
capped_bool type.Bool type.Bool = refl
capped_bool type.Bool type.Long = refl
capped_bool type.Bool (type.Str n) = refl
capped_bool type.Long b = refl
capped_bool (type.Str m) b = refl

capped_compared : (a b : FieldType) → compared (capped a) (capped b) ≡ compared a b
capped_compared type.Long type.Long = refl
capped_compared type.Long type.Bool = refl
capped_compared type.Long (type.Str n) = refl
capped_compared type.Bool type.Long = refl
capped_compared type.Bool type.Bool = refl
capped_compared type.Bool (type.Str n) = refl
capped_compared (type.Str m) type.Long = refl
capped_compared (type.Str m) type.Bool = refl
capped_compared (type.Str m) (type.Str n) = refl

capped_joined : (a b : FieldType) → option_map capped (joined (capped a) (capped b)) ≡ option_map capped (joined a b)
capped_joined type.Long b = refl
capped_joined type.Bool b = refl
capped_joined (type.Str m) type.Long = refl
capped_joined (type.Str m) type.Bool = refl
capped_joined (type.Str m) (type.Str n) = ap (λ b. Some (type.Str b)) (omega arith)

pub capped_widened : (a b : FieldType) → widened (capped a) (capped b) ≡ option_map capped (widened a b)
capped_widened type.Long type.Long = refl
capped_widened type.Long type.Bool = refl
capped_widened type.Long (type.Str n) = refl
capped_widened type.Bool type.Long = refl
capped_widened type.Bool type.Bool = refl
capped_widened type.Bool (type.Str n) = refl
capped_widened (type.Str m) type.Long = refl
capped_widened (type.Str m) type.Bool = refl
capped_widened (type.Str m) (type.Str n) = ap (λ b. Some (type.Str b)) (omega arith)

capped_two : (op : BinOp) (a b : FieldType) → option_map capped (type_of_two op (capped a) (capped b)) ≡ option_map capped (type_of_two op a b)
capped_two bin.Add a b = ap (option_map capped) (capped_long a b)
capped_two bin.Sub a b = ap (option_map capped) (capped_long a b)
capped_two bin.Mul a b = ap (option_map capped) (capped_long a b)
capped_two bin.Div a b = ap (option_map capped) (capped_long a b)
capped_two bin.Rem a b = ap (option_map capped) (capped_long a b)
capped_two bin.Eq a b = ap (option_map capped) (capped_compared a b)
capped_two bin.Ne a b = ap (option_map capped) (capped_compared a b)
capped_two bin.Lt a b = ap (option_map capped) (capped_compared a b)
capped_two bin.Le a b = ap (option_map capped) (capped_compared a b)
capped_two bin.Gt a b = ap (option_map capped) (capped_compared a b)
capped_two bin.Ge a b = ap (option_map capped) (capped_compared a b)
capped_two bin.And a b = ap (option_map capped) (capped_bool a b)
capped_two bin.Or a b = ap (option_map capped) (capped_bool a b)
capped_two bin.Cat a b = capped_joined a b

found_two : (op : BinOp) (s t : Option FieldType) → option_map capped (option_map capped s >>= λ x. option_map capped t >>= λ y. type_of_two op x y) ≡ option_map capped (s >>= λ x. t >>= λ y. type_of_two op x y)
found_two op None t = refl
found_two op (Some x) None = refl
found_two op (Some x) (Some y) = capped_two op x y

-- an operation on two expressions, as its parts are told
pub told_bin : (fields : Fields) (op : BinOp) (a b : Expr) → told_two op (told (typing_of fields a)) (told (typing_of fields b)) ≡ told (typing_of fields (expr.Bin op a b))
told_bin fields op a b =
    told_same _ _ ((typing_of fields a).narrow && (typing_of fields b).narrow) (found_two op (typing_of fields a).type (typing_of fields b).type)
    ∙ sym (ap told (fold-Bin Typing (typing_layer fields) op a b))

-- Choices

capped_choice : (c a b : FieldType) → option_map capped (type_of_choice (capped c) (capped a) (capped b)) ≡ option_map capped (type_of_choice c a b)
capped_choice type.Bool a b = ap (option_map capped) (capped_widened a b) ∙ told_twice (widened a b)
capped_choice type.Long a b = refl
capped_choice (type.Str n) a b = refl

found_choice : (r s t : Option FieldType) → option_map capped (option_map capped r >>= λ x. option_map capped s >>= λ y. option_map capped t >>= λ z. type_of_choice x y z) ≡ option_map capped (r >>= λ x. s >>= λ y. t >>= λ z. type_of_choice x y z)
found_choice None s t = refl
found_choice (Some x) None t = refl
found_choice (Some x) (Some y) None = refl
found_choice (Some x) (Some y) (Some z) = capped_choice x y z

-- a choice, as its parts are told
pub told_if : (fields : Fields) (c a b : Expr) → told_choice (told (typing_of fields c)) (told (typing_of fields a)) (told (typing_of fields b)) ≡ told (typing_of fields (expr.If c a b))
told_if fields c a b =
    told_same _ _ ((typing_of fields c).narrow && (typing_of fields a).narrow && (typing_of fields b).narrow) (found_choice (typing_of fields c).type (typing_of fields a).type (typing_of fields b).type)
    ∙ sym (ap told (fold-If Typing (typing_layer fields) c a b))
