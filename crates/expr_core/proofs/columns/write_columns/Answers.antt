use Rattle.std.proofs.Common.{arith}
use Rattle.expr_core.proofs.ColumnLemmas.{column_written}
use Rattle.expr_core.proofs.columns.write_columns.Goals as goal

pub loop-column-preserved : goal.loop-column-preserved
loop-column-preserved g c =
    column_written (g.R.Source.fields c.args.row.now) (g.R.Source.tuple c.args.row.now) c.args.columns.now c.loop-column.column-index
    c.column-item.result c.column-item.result c.loop-column.room c.write_column-start.new.room _ c.loop-column.start c.write_column-start.result
    c.requires.fitting c.requires.typed c.requires.small (omega (arith, c.loop-column-test.true, c.loop-column.auto.column-index-end)) c.column-item.is c.loop-column.invariant
    (omega (arith, c.loop-column.invariant.low, c.requires.space, c.loop-column.auto.room))
    c.write_column-start.ensures.bytes c.write_column-start.ensures.len
