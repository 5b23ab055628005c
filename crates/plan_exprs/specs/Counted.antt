use Rattle.std.specs.Prelude.{ℕ, ◌+◌, Bool, ◌&&◌, nat_le, Option}
use Rattle.serde_json.specs.Data.{Data}
use Rattle.flow_types.specs.declared.expr.UnOp.{UnOp}
use Rattle.flow_types.specs.declared.expr.BinOp.{BinOp}
use Rattle.flow_types.specs.declared.expr.Expr.{Expr}
use Rattle.flow_types.specs.declared.expr.Expr.TheVariants as expr
use Rattle.flow_types.specs.ExprTypes.{extent_of, part_limit}
use Rattle.plan_exprs.specs.declared.counted.Counted.{Counted}
use Rattle.plan_json.specs.Json.{◌>>=◌, only_if}
use Rattle.plan_exprs.specs.Exprs.{Part, expr_of}

-- Expressions and how large they are, for the reader's own clauses.

-- an item of a list, and the expression that it is
abbrev pub part_of : Data → Part
part_of d = record { json = d; expr = expr_of d }

-- at most 256 parts, and at most so many lists inside one another
abbrev pub is_within : ℕ → Expr → Bool
is_within lists e = nat_le (extent_of e).parts part_limit && nat_le (extent_of e).lists lists

-- an expression with its number of parts, where it is within these limits
abbrev pub counted : ℕ → Option Expr → Option Counted
counted lists o = o >>= λ e. only_if (is_within lists e) (record { expr = e; parts = (extent_of e).parts })

-- an expression of so many parts, where these are few enough
abbrev pub sized : Expr → ℕ → Option Counted
sized e parts = only_if (nat_le parts part_limit) (record { expr = e; parts = parts })

-- an operation on an expression, where the whole has few enough parts
abbrev pub counted_un : UnOp → Option Counted → Option Counted
counted_un op a = a >>= λ x. sized (expr.Un op x.expr) (1 + x.parts)

-- a cut of an expression, likewise
abbrev pub counted_cut : ℕ → Option Counted → Option Counted
counted_cut n a = a >>= λ x. sized (expr.Cut x.expr n) (1 + x.parts)

-- an operation on two expressions, likewise
abbrev pub counted_bin : BinOp → Option Counted → Option Counted → Option Counted
counted_bin op a b = a >>= λ x. b >>= λ y. sized (expr.Bin op x.expr y.expr) (1 + x.parts + y.parts)

-- a choice of three expressions, likewise
abbrev pub counted_if : Option Counted → Option Counted → Option Counted → Option Counted
counted_if c a b = c >>= λ x. a >>= λ y. b >>= λ z. sized (expr.If x.expr y.expr z.expr) (1 + x.parts + y.parts + z.parts)
