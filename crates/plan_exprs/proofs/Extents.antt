-- How large an expression is, form by form.
use Rattle.std.proofs.Common.{◌≡◌, ℕ, ◌+◌, max, sym, ap, ◌∙◌}
use Rattle.flow_types.specs.declared.value.Value.{Value}
use Rattle.flow_types.specs.declared.expr.UnOp.{UnOp}
use Rattle.flow_types.specs.declared.expr.BinOp.{BinOp}
use Rattle.flow_types.specs.declared.expr.Expr.{Expr, fold-roll-Expr}
use Rattle.flow_types.specs.declared.expr.Expr.TheVariants as expr
use Rattle.flow_types.specs.declared.expr.Expr.TheOpen.{Expr-F}
use Rattle.flow_types.specs.ExprTypes.{Extent, extent_of, extent_layer}

pub extent-Lit : (v : Value) → extent_of (expr.Lit v) ≡ record { parts = 1; lists = 0 }
extent-Lit v = ap extent_of (sym (expr.rolls-Lit v)) ∙ fold-roll-Expr Extent extent_layer (Expr-F.Lit v)

pub extent-Field : (k : ℕ) → extent_of (expr.Field k) ≡ record { parts = 1; lists = 1 }
extent-Field k = ap extent_of (sym (expr.rolls-Field k)) ∙ fold-roll-Expr Extent extent_layer (Expr-F.Field k)

pub extent-Un : (op : UnOp) (a : Expr) → extent_of (expr.Un op a) ≡ record { parts = 1 + (extent_of a).parts; lists = 1 + (extent_of a).lists }
extent-Un op a = ap extent_of (sym (expr.rolls-Un op a)) ∙ fold-roll-Expr Extent extent_layer (Expr-F.Un op a)

pub extent-Bin : (op : BinOp) (a b : Expr) → extent_of (expr.Bin op a b) ≡ record { parts = 1 + (extent_of a).parts + (extent_of b).parts; lists = 1 + max (extent_of a).lists (extent_of b).lists }
extent-Bin op a b = ap extent_of (sym (expr.rolls-Bin op a b)) ∙ fold-roll-Expr Extent extent_layer (Expr-F.Bin op a b)

pub extent-If : (c a b : Expr) → extent_of (expr.If c a b) ≡ record { parts = 1 + (extent_of c).parts + (extent_of a).parts + (extent_of b).parts; lists = 1 + max (extent_of c).lists (max (extent_of a).lists (extent_of b).lists) }
extent-If c a b = ap extent_of (sym (expr.rolls-If c a b)) ∙ fold-roll-Expr Extent extent_layer (Expr-F.If c a b)

pub extent-Cut : (a : Expr) (n : ℕ) → extent_of (expr.Cut a n) ≡ record { parts = 1 + (extent_of a).parts; lists = 1 + (extent_of a).lists }
extent-Cut a n = ap extent_of (sym (expr.rolls-Cut a n)) ∙ fold-roll-Expr Extent extent_layer (Expr-F.Cut a n)
