use Rattle.std.specs.Prelude.{◌≡◌, ℕ, ◌≤◌, Bool, true, ◌&&◌, IsTrue, Some, List, ◌++◌, map, take, length}
use Rattle.std.specs.List.{AllZip}
use Rattle.std.specs.Str.{IsUtf8}
use Rattle.flow_types.specs.declared.field_type.FieldType.{FieldType}
use Rattle.flow_types.specs.declared.expr.Expr.{Expr, fold-Expr}
use Rattle.flow_types.specs.declared.expr.Expr.TheOpen as open_expr
use Rattle.flow_types.specs.Values.{is_value}
use Rattle.flow_types.specs.Types.{Fields, fits, fits_field}
use Rattle.flow_types.specs.Tuples.{Tuple}
use Rattle.flow_types.specs.Records.{IsTupleOf}
use Rattle.flow_types.specs.Expressions.{cut, val}
use Rattle.flow_types.specs.ExprTypes.{typing_of, type_of}

-- The law of types: what has a type has a value of that type, on every row of the schema.

-- whether each literal is a value that a field can hold, by those of the parts
abbrev pub literals_layer : open_expr.Expr-F Bool → Bool
literals_layer (open_expr.Expr-F.Lit v) = is_value v
literals_layer (open_expr.Expr-F.Field k) = true
literals_layer (open_expr.Expr-F.Un op a) = a
literals_layer (open_expr.Expr-F.Bin op a b) = a && b
literals_layer (open_expr.Expr-F.If c a b) = c && a && b
literals_layer (open_expr.Expr-F.Cut a n) = a

-- whether each literal of an expression is a value that a field can hold, as each is in an `Expr` in memory
abbrev pub has_values : Expr → Bool
has_values = fold-Expr Bool literals_layer

-- An expression has this type over the fields of a schema, no part of it is wider than a text, and its
-- literals are values.
pub record HasType (fields : Fields) (e : Expr) (f : FieldType) : Type 0 where
  pub typed : type_of fields e ≡ Some f
  pub narrow : IsTrue (typing_of fields e).narrow
  pub literals : IsTrue (has_values e)

-- Over a tuple that fits, the value of an expression fits its type. Over a tuple of values, where no part of
-- the expression is wider than a text and its literals are values, its value is one that a field can hold:
-- a Long's number, or at most 16,382 bytes of UTF-8. So the columns' values are a tuple of the columns'
-- types, and one tuple followed by another is one of both schemas.
pub record TypesAreSound : Type 0 where
  pub fitting : (fields : Fields) (t : Tuple) (e : Expr) (f : FieldType) → IsTrue (fits fields t) → type_of fields e ≡ Some f → IsTrue (fits_field f (val t e))
  pub values : (fields : Fields) (t : Tuple) (e : Expr) (f : FieldType) → IsTupleOf fields t → HasType fields e f → IsTrue (is_value (val t e))
  pub columns : (fields : Fields) (t : Tuple) (es : List Expr) (types : Fields) → IsTupleOf fields t → AllZip (HasType fields) es types → IsTupleOf types (map (val t) es)
  pub joined : (left right : Fields) (t u : Tuple) → IsTupleOf left t → IsTupleOf right u → IsTupleOf (left ++ right) (t ++ u)

-- What `cut` leaves of a text is its longest prefix in UTF-8 of at most n bytes.
pub record CutsAreLongest : Type 0 where
  pub prefix : (n : ℕ) (s : List ℕ) → cut n s ≡ take (length (cut n s)) s
  pub short : (n : ℕ) (s : List ℕ) → length (cut n s) ≤ n
  pub text : (n : ℕ) (s : List ℕ) → IsUtf8 s → IsUtf8 (cut n s)
  pub longest : (n k : ℕ) (s : List ℕ) → IsUtf8 s → k ≤ n → k ≤ length s → IsUtf8 (take k s) → k ≤ length (cut n s)
