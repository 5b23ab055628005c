use Rattle.std.proofs.Common.{arith}
use Rattle.expr_core.proofs.ColumnLemmas.{checked_more}
use Rattle.worked_exprs.proofs.known.are_columns.Goals as goal

pub loop-column-preserved : goal.loop-column-preserved
loop-column-preserved c =
    checked_more c.args.fields.now c.args.columns.now c.loop-column.column-index c.loop-column.total c.in-Some.width c.column-item.result
    (omega (arith, c.loop-column-test.true)) c.column-item.is c.loop-column.invariant c.in-Some.ensures.width c.in-Some.ensures.typed
    (omega (arith, c.if-total-gt-RECORD_LIMIT.false))
