use Rattle.expr_core.proofs.ExprLemmas.{parts_of}
use Rattle.expr_core.proofs.eval.+eval.Given as goal

abbrev pub decreases-eval : goal.decreases-eval
decreases-eval g l = parts_of l.expr.now
