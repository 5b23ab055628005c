use Rattle.std.specs.Prelude.{ℕ, Bool, true, false, nat_le, if◌then◌else◌, List, [], ◌∷◌, length, codes, Option, Some, None, option_map, Ok, Err}
use Rattle.serde_json.specs.Data.{Data, null, boolean, number, string, array, object, Items, no_items, item}
use Rattle.serde_json.specs.Find.{as_str, as_i64}
use Rattle.flow_types.specs.declared.value.Value.{Value}
use Rattle.flow_types.specs.declared.value.Value.TheVariants as value
use Rattle.flow_types.specs.declared.expr.UnOp.{UnOp}
use Rattle.flow_types.specs.declared.expr.UnOp.TheVariants as un
use Rattle.flow_types.specs.declared.expr.BinOp.{BinOp}
use Rattle.flow_types.specs.declared.expr.BinOp.TheVariants as bin
use Rattle.flow_types.specs.declared.expr.Expr.{Expr}
use Rattle.flow_types.specs.declared.expr.Expr.TheVariants as expr
use Rattle.flow_types.specs.ExprTypes.{is_limited}
use Rattle.flow_types.specs.Limits.{text_limit}
use Rattle.flow_types.specs.Tuples.{Tuple}
use Rattle.plan_json.specs.declared.reading.Flaw.TheVariants as flaw
use Rattle.plan_json.specs.Json.{◌>>=◌, only_if, collected, meaning, items_in, list_in, is_text}
use Rattle.plan_json.specs.Reading.{Reading, ◌<$>◌, or_flaw, formed}
use Rattle.plan_json.specs.Numbers.{number_of, field_number}

-- Literals and expressions as JSON. Their forms are this project's own.

-- a Long, a Bool, or a text of at most 16,382 bytes
abbrev pub literal_of : Data → Option Value
literal_of null = None
literal_of (boolean b) = Some (value.Bool b)
literal_of (number n) = option_map value.Long (as_i64 n)
literal_of (string s) = only_if (nat_le (length s) text_limit) (value.Str s)
literal_of (array ds) = None
literal_of (object ms) = None

-- the operations on one value
abbrev pub un_ops : List (List ℕ × UnOp)
un_ops = (codes "not", un.Not) ∷ (codes "len", un.Len) ∷ []

-- the operations on two values
abbrev pub bin_ops : List (List ℕ × BinOp)
bin_ops =
    (codes "add", bin.Add) ∷ (codes "sub", bin.Sub) ∷ (codes "mul", bin.Mul) ∷ (codes "div", bin.Div) ∷ (codes "rem", bin.Rem)
    ∷ (codes "eq", bin.Eq) ∷ (codes "ne", bin.Ne) ∷ (codes "lt", bin.Lt) ∷ (codes "le", bin.Le) ∷ (codes "gt", bin.Gt) ∷ (codes "ge", bin.Ge)
    ∷ (codes "and", bin.And) ∷ (codes "or", bin.Or) ∷ (codes "cat", bin.Cat) ∷ []

-- An item of a list, and the expression that it is, where it is one.
pub record Part : Type 0 where
  pub json : Data
  pub expr : Option Expr

-- an operation on an expression that is one
abbrev pub un_of : UnOp → Option Expr → Option Expr
un_of op a = a >>= λ x. Some (expr.Un op x)

-- an operation on two expressions that are ones
abbrev pub bin_of : BinOp → Option Expr → Option Expr → Option Expr
bin_of op a b = a >>= λ x. b >>= λ y. Some (expr.Bin op x y)

-- a cut of an expression that is one
abbrev pub cut_of : ℕ → Option Expr → Option Expr
cut_of n a = a >>= λ x. Some (expr.Cut x n)

-- a choice of three expressions that are ones
abbrev pub if_of : Option Expr → Option Expr → Option Expr → Option Expr
if_of c a b = c >>= λ x. a >>= λ y. b >>= λ z. Some (expr.If x y z)

-- `["f", i]`, or an operation on one value
abbrev pub of_one : Data → Part → Option Expr
of_one word a =
    if is_text (codes "f") word then option_map expr.Field (field_number a.json)
    else (as_str word >>= meaning un_ops >>= λ op. un_of op a.expr)

-- `["cut", a, n]` with n from 0 to 16,382, or an operation on two values
abbrev pub of_two : Data → Part → Part → Option Expr
of_two word a b =
    if is_text (codes "cut") word then (number_of 0 text_limit b.json >>= λ n. cut_of n a.expr)
    else (as_str word >>= meaning bin_ops >>= λ op. bin_of op a.expr b.expr)

-- `["if", c, a, b]`
abbrev pub of_three : Data → Part → Part → Part → Option Expr
of_three word c a b =
    if is_text (codes "if") word then if_of c.expr a.expr b.expr else None

-- the expression that a list is, of its items
abbrev pub of_parts : List Part → Option Expr
of_parts (word ∷ a ∷ []) = of_one word.json a
of_parts (word ∷ a ∷ b ∷ []) = of_two word.json a b
of_parts (word ∷ c ∷ a ∷ b ∷ []) = of_three word.json c a b
of_parts _ = None

-- the expression that a value is, however large
abbrev mutual
  pub expr_of : Data → Option Expr
  expr_of null = None
  expr_of (boolean b) = option_map expr.Lit (literal_of (boolean b))
  expr_of (number n) = option_map expr.Lit (literal_of (number n))
  expr_of (string s) = option_map expr.Lit (literal_of (string s))
  expr_of (array ds) = of_parts (parts_of ds)
  expr_of (object ms) = None

  pub parts_of : Items → List Part
  parts_of no_items = []
  parts_of (item d ds) = record { json = d; expr = expr_of d } ∷ parts_of ds

-- an expression within its limits
abbrev pub limited_expr : Data → Option Expr
limited_expr d = expr_of d >>= λ e. only_if (is_limited e) e

-- a member that is an expression
abbrev pub expr_in : Option Data → Reading Expr
expr_in member = formed member (λ d. or_flaw flaw.Expr (limited_expr d))

-- a member that is a list of 1 to 32 expressions
abbrev pub columns_in : Option Data → Reading (List Expr)
columns_in member = formed (member >>= list_in 1 32) (λ items. or_flaw flaw.Expr (collected limited_expr items))

-- a member that is a list of literals, of any length
abbrev pub literals_in : Option Data → Reading Tuple
literals_in member = formed (member >>= items_in) (λ items. or_flaw flaw.Expr (collected literal_of items))

-- a side's default: there, and a list of literals, exactly where it is wanted
abbrev pub default_in : Bool → Option Data → Reading (Option Tuple)
default_in true member = Some <$> literals_in member
default_in false None = Ok None
default_in false (Some d) = Err flaw.Node
