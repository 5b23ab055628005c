-- A fold over expressions, form by form. Each definition over expressions is one: `val t` at `node_value t`,
-- `typing_of fields` at `typing_layer fields`, `extent_of` at `extent_layer`, and so on.
use Rattle.std.proofs.Common.{◌≡◌, ℕ, sym, ap, ◌∙◌}
use Rattle.flow_types.specs.declared.value.Value.{Value}
use Rattle.flow_types.specs.declared.expr.UnOp.{UnOp}
use Rattle.flow_types.specs.declared.expr.BinOp.{BinOp}
use Rattle.flow_types.specs.declared.expr.Expr.{Expr, fold-Expr, fold-roll-Expr}
use Rattle.flow_types.specs.declared.expr.Expr.TheVariants as expr
use Rattle.flow_types.specs.declared.expr.Expr.TheOpen.{Expr-F}

module _ (A : Type 0) (step : Expr-F A → A) where
  pub fold-Lit : (v : Value) → fold-Expr A step (expr.Lit v) ≡ step (Expr-F.Lit v)
  fold-Lit v = ap (fold-Expr A step) (sym (expr.rolls-Lit v)) ∙ fold-roll-Expr A step (Expr-F.Lit v)

  pub fold-Field : (k : ℕ) → fold-Expr A step (expr.Field k) ≡ step (Expr-F.Field k)
  fold-Field k = ap (fold-Expr A step) (sym (expr.rolls-Field k)) ∙ fold-roll-Expr A step (Expr-F.Field k)

  pub fold-Un : (op : UnOp) (a : Expr) → fold-Expr A step (expr.Un op a) ≡ step (Expr-F.Un op (fold-Expr A step a))
  fold-Un op a = ap (fold-Expr A step) (sym (expr.rolls-Un op a)) ∙ fold-roll-Expr A step (Expr-F.Un op a)

  pub fold-Bin : (op : BinOp) (a b : Expr) → fold-Expr A step (expr.Bin op a b) ≡ step (Expr-F.Bin op (fold-Expr A step a) (fold-Expr A step b))
  fold-Bin op a b = ap (fold-Expr A step) (sym (expr.rolls-Bin op a b)) ∙ fold-roll-Expr A step (Expr-F.Bin op a b)

  pub fold-If : (c a b : Expr) → fold-Expr A step (expr.If c a b) ≡ step (Expr-F.If (fold-Expr A step c) (fold-Expr A step a) (fold-Expr A step b))
  fold-If c a b = ap (fold-Expr A step) (sym (expr.rolls-If c a b)) ∙ fold-roll-Expr A step (Expr-F.If c a b)

  pub fold-Cut : (a : Expr) (n : ℕ) → fold-Expr A step (expr.Cut a n) ≡ step (Expr-F.Cut (fold-Expr A step a) n)
  fold-Cut a n = ap (fold-Expr A step) (sym (expr.rolls-Cut a n)) ∙ fold-roll-Expr A step (Expr-F.Cut a n)
