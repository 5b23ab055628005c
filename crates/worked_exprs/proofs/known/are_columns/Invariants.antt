use Rattle.expr_core.proofs.ColumnLemmas.{Checked}
use Rattle.worked_exprs.proofs.known.are_columns.Given as goal

abbrev pub invariant-loop-column : goal.invariant-loop-column
invariant-loop-column l = Checked l.fields l.columns l.column-index l.total
