use Rattle.std.specs.Prelude.{IsTrue, take}
use Rattle.model_laws.specs.LawsOfFits.{have_values}
use Rattle.model_laws.proofs.held.exprs_have_values.Given as goal

abbrev pub invariant-loop-expr : goal.invariant-loop-expr
invariant-loop-expr l = IsTrue (have_values (take l.expr-index l.exprs))
