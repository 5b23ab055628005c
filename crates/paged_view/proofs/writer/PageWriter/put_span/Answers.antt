-- One piece of the record was put.
use Rattle.std.proofs.Common.{arith}
use Rattle.paged_view.proofs.WritingLemmas.{text_span, length-piece}
use Rattle.paged_view.proofs.writer.PageWriter.put_span.Goals as goal

pub pieces-preserved : goal.pieces-preserved
pieces-preserved g c = record {
  within = omega (arith, c.len-len.ensures, length-piece (g.X.Span.seen c.args.row.now) c.piece-piece.result.now c.pieces.at (omega (arith, c.len-len.ensures, c.pieces.invariant.within)) c.piece-piece.ensures.bytes);
  text = text_span _ _ _ _ _ _ c.pieces.invariant.text c.piece-piece.ensures.bytes c.put.ensures.text;
  room = cc;
  size = cc;
  segments = λ h. omega (arith, c.pieces.invariant.segments h, c.put.ensures.segments h);
}
