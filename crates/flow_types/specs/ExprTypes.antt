use Rattle.std.specs.Prelude.{ℕ, ◌+◌, Bool, true, ◌&&◌, nat_le, nat_lt, max, min, length, slice_get, Option, Some, None, option_and_then}
use Rattle.flow_types.specs.Limits.{text_limit}
use Rattle.flow_types.specs.declared.value.Value.{Value}
use Rattle.flow_types.specs.declared.value.Value.TheVariants as value
use Rattle.flow_types.specs.declared.field_type.FieldType.{FieldType}
use Rattle.flow_types.specs.declared.field_type.FieldType.TheVariants as type
use Rattle.flow_types.specs.declared.expr.UnOp.{UnOp}
use Rattle.flow_types.specs.declared.expr.UnOp.TheVariants as un
use Rattle.flow_types.specs.declared.expr.BinOp.{BinOp}
use Rattle.flow_types.specs.declared.expr.BinOp.TheVariants as bin
use Rattle.flow_types.specs.declared.expr.Expr.{Expr, fold-Expr}
use Rattle.flow_types.specs.declared.expr.Expr.TheOpen as open_expr
use Rattle.flow_types.specs.Types.{Fields}

infixl 10 ◌>>=◌
-- what follows a value that is there
abbrev pub ◌>>=◌ : {A B : Type 0} → Option A → (A → Option B) → Option B
o >>= f = option_and_then f o

-- The types of expressions and their limits are this project's own.

-- the type of a value: a text has its own length as its bound
abbrev pub type_of_value : Value → FieldType
type_of_value (value.Long n) = type.Long
type_of_value (value.Bool b) = type.Bool
type_of_value (value.Str s) = type.Str (length s)

-- the type that has the values of two types of one kind: a text has the larger bound
abbrev pub widened : FieldType → FieldType → Option FieldType
widened type.Long type.Long = Some type.Long
widened type.Bool type.Bool = Some type.Bool
widened (type.Str m) (type.Str n) = Some (type.Str (max m n))
widened _ _ = None

-- a Bool where two types have one kind
abbrev pub compared : FieldType → FieldType → Option FieldType
compared type.Long type.Long = Some type.Bool
compared type.Bool type.Bool = Some type.Bool
compared (type.Str m) (type.Str n) = Some type.Bool
compared _ _ = None

-- a Long of two Longs
abbrev pub both_long : FieldType → FieldType → Option FieldType
both_long type.Long type.Long = Some type.Long
both_long _ _ = None

-- a Bool of two Bools
abbrev pub both_bool : FieldType → FieldType → Option FieldType
both_bool type.Bool type.Bool = Some type.Bool
both_bool _ _ = None

-- a text of two texts, whose bound is the sum of theirs
abbrev pub joined : FieldType → FieldType → Option FieldType
joined (type.Str m) (type.Str n) = Some (type.Str (m + n))
joined _ _ = None

-- the type of an operation on a value of this type
abbrev pub type_of_one : UnOp → FieldType → Option FieldType
type_of_one un.Not type.Bool = Some type.Bool
type_of_one un.Len (type.Str n) = Some type.Long
type_of_one _ _ = None

-- the type of an operation on values of these types
abbrev pub type_of_two : BinOp → FieldType → FieldType → Option FieldType
type_of_two bin.Add a b = both_long a b
type_of_two bin.Sub a b = both_long a b
type_of_two bin.Mul a b = both_long a b
type_of_two bin.Div a b = both_long a b
type_of_two bin.Rem a b = both_long a b
type_of_two bin.Eq a b = compared a b
type_of_two bin.Ne a b = compared a b
type_of_two bin.Lt a b = compared a b
type_of_two bin.Le a b = compared a b
type_of_two bin.Gt a b = compared a b
type_of_two bin.Ge a b = compared a b
type_of_two bin.And a b = both_bool a b
type_of_two bin.Or a b = both_bool a b
type_of_two bin.Cat a b = joined a b

-- the type of a choice: its condition is a Bool, and its two sides are widened
abbrev pub type_of_choice : FieldType → FieldType → FieldType → Option FieldType
type_of_choice type.Bool a b = widened a b
type_of_choice _ a b = None

-- the type of a text cut to at most n bytes
abbrev pub type_of_cut : ℕ → FieldType → Option FieldType
type_of_cut n (type.Str m) = Some (type.Str (min m n))
type_of_cut n _ = None

-- What is known of an expression: its type, where it has one, and whether no part of it that is a text has
-- a bound above a text's limit, itself included.
pub record Typing : Type 0 where
  pub type : Option FieldType
  pub narrow : Bool

-- a type that is no text, or whose bound is at most 16,382
abbrev pub is_narrow_type : Option FieldType → Bool
is_narrow_type (Some (type.Str bound)) = nat_le bound text_limit
is_narrow_type _ = true

-- whether no part is wider than a text, by those of the parts
abbrev pub narrow_layer : open_expr.Expr-F Typing → Bool
narrow_layer (open_expr.Expr-F.Lit v) = true
narrow_layer (open_expr.Expr-F.Field k) = true
narrow_layer (open_expr.Expr-F.Un op a) = a.narrow
narrow_layer (open_expr.Expr-F.Bin op a b) = a.narrow && b.narrow
narrow_layer (open_expr.Expr-F.If c a b) = c.narrow && a.narrow && b.narrow
narrow_layer (open_expr.Expr-F.Cut a n) = a.narrow

-- the type of an expression, from those of its parts
abbrev pub type_layer : Fields → open_expr.Expr-F Typing → Option FieldType
type_layer fields (open_expr.Expr-F.Lit v) = Some (type_of_value v)
type_layer fields (open_expr.Expr-F.Field k) = slice_get fields k
type_layer fields (open_expr.Expr-F.Un op a) = a.type >>= type_of_one op
type_layer fields (open_expr.Expr-F.Bin op a b) = a.type >>= λ x. b.type >>= λ y. type_of_two op x y
type_layer fields (open_expr.Expr-F.If c a b) = c.type >>= λ x. a.type >>= λ y. b.type >>= λ z. type_of_choice x y z
type_layer fields (open_expr.Expr-F.Cut a n) = a.type >>= type_of_cut n

-- an expression's typing, from those of its parts
abbrev pub typing_layer : Fields → open_expr.Expr-F Typing → Typing
typing_layer fields e = record { type = type_layer fields e; narrow = narrow_layer e && is_narrow_type (type_layer fields e) }

-- an expression's typing over the fields of a schema
abbrev pub typing_of : Fields → Expr → Typing
typing_of fields = fold-Expr Typing (typing_layer fields)

-- the type of an expression over the fields of a schema, where it has one; no bound is too large here
abbrev pub type_of : Fields → Expr → Option FieldType
type_of fields e = (typing_of fields e).type

-- whether no field's number in an expression is past the fields, by those of the parts
abbrev pub within_layer : ℕ → open_expr.Expr-F Bool → Bool
within_layer count (open_expr.Expr-F.Lit v) = true
within_layer count (open_expr.Expr-F.Field k) = nat_lt k count
within_layer count (open_expr.Expr-F.Un op a) = a
within_layer count (open_expr.Expr-F.Bin op a b) = a && b
within_layer count (open_expr.Expr-F.If c a b) = c && a && b
within_layer count (open_expr.Expr-F.Cut a n) = a

-- whether each field that an expression names is one of so many
abbrev pub is_within : ℕ → Expr → Bool
is_within count = fold-Expr Bool (within_layer count)

-- How large an expression is: its parts, which are its literals, fields and operations; and how many lists
-- stand inside one another in its text, where a literal is none.
pub record Extent : Type 0 where
  pub parts : ℕ
  pub lists : ℕ

-- an expression's extent, from those of its parts
abbrev pub extent_layer : open_expr.Expr-F Extent → Extent
extent_layer (open_expr.Expr-F.Lit v) = record { parts = 1; lists = 0 }
extent_layer (open_expr.Expr-F.Field k) = record { parts = 1; lists = 1 }
extent_layer (open_expr.Expr-F.Un op a) = record { parts = 1 + a.parts; lists = 1 + a.lists }
extent_layer (open_expr.Expr-F.Bin op a b) = record { parts = 1 + a.parts + b.parts; lists = 1 + max a.lists b.lists }
extent_layer (open_expr.Expr-F.If c a b) =
    record { parts = 1 + c.parts + a.parts + b.parts; lists = 1 + max c.lists (max a.lists b.lists) }
extent_layer (open_expr.Expr-F.Cut a n) = record { parts = 1 + a.parts; lists = 1 + a.lists }

-- an expression's extent
abbrev pub extent_of : Expr → Extent
extent_of = fold-Expr Extent extent_layer

-- the most parts of an expression
abbrev pub part_limit : ℕ
part_limit = 256

-- the most lists inside one another
abbrev pub list_limit : ℕ
list_limit = 32

-- an expression is within its limits
abbrev pub is_limited : Expr → Bool
is_limited e = nat_le (extent_of e).parts part_limit && nat_le (extent_of e).lists list_limit
