use Rattle.std.proofs.Common.{arith}
use Rattle.expr_core.proofs.TextLemmas.{copied_more}
use Rattle.expr_core.proofs.text.copy_record.Goals as goal

pub loop-at-preserved : goal.loop-at-preserved
loop-at-preserved g c =
    copied_more (g.R.Source.seen c.args.row.now) c.args.room.now c.loop-at.room c.write_bytes-at.new.out c.piece-piece.result.now
    c.args.start c.loop-at.at c.args.len c.min-count.result c.write_bytes-at.result c.loop-at.invariant c.piece-piece.ensures.bytes
    (omega (arith, c.min-count.ensures)) (omega (arith, c.min-count.ensures)) (omega (arith, c.requires.space, c.loop-at.auto.room))
    c.write_bytes-at.ensures.end c.write_bytes-at.ensures.bytes
