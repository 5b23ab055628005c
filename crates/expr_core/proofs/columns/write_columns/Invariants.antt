use Rattle.expr_core.proofs.ColumnLemmas.{Written}
use Rattle.expr_core.proofs.columns.write_columns.Given as goal

abbrev pub invariant-loop-column : goal.invariant-loop-column
invariant-loop-column g l = Written (g.R.Source.fields l.row) (g.R.Source.tuple l.row) l.columns l.column-index l.room l.start
