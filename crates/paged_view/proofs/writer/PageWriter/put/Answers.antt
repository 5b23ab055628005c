-- One piece more was put.
use Rattle.std.proofs.Common.{arith}
use Rattle.paged_view.proofs.WritingLemmas.{text_piece, piece_within}
use Rattle.paged_view.proofs.writer.PageWriter.put.Goals as goal

pub pieces-preserved : goal.pieces-preserved
pieces-preserved c = record {
  within = piece_within _ _ _ c.pieces.invariant.within c.put_piece-at.ensures.within;
  text = text_piece _ _ _ _ _ _ c.pieces.invariant.text c.put_piece-at.ensures.text;
  room = cc;
  size = cc;
  segments = λ h. omega (arith, c.pieces.invariant.segments h, c.put_piece-at.ensures.segments h);
}
