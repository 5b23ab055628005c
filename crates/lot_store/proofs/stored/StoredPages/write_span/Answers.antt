-- One piece more of the record was added.
use Rattle.std.proofs.Common.{arith, ◌∙◌}
use Rattle.paged_view.proofs.WritingLemmas.{length-piece}
use Rattle.lot_store.proofs.FullLemmas.{full_join}
use Rattle.lot_store.proofs.StepLemmas.{adds_span, keeps_told, moves_join}
use Rattle.lot_store.proofs.stored.StoredPages.write_span.Goals as goal

pub pieces-preserved : goal.pieces-preserved
pieces-preserved g c = record {
  within = omega (arith, c.len-len.ensures, length-piece (g.X.Span.seen c.args.row.now) c.piece-piece.result.now c.pieces.at (omega (arith, c.len-len.ensures, c.pieces.invariant.within)) c.piece-piece.ensures.bytes);
  supply = c.in-Ok.ensures.supply;
  later = omega (arith, c.pieces.invariant.later, c.write.ensures.cause.later);
  added = adds_span _ _ _ c.args.self.now c.pieces.self c.write.new.self (g.X.Span.seen c.args.row.now) c.piece-piece.result.now c.pieces.at c.pieces.invariant.added c.piece-piece.ensures.bytes c.in-Ok.ensures.added;
  full = full_join _ _ _ c.args.self.now c.pieces.self c.write.new.self c.args.purse.now.pages c.pieces.purse.pages c.pieces.invariant.full c.pieces.invariant.keeps c.in-Ok.ensures.full;
  keeps = keeps_told _ _ _ c.args.self.now c.pieces.self c.write.new.self c.args.purse.now.pages c.pieces.purse.pages c.write.new.purse.pages c.pieces.invariant.keeps c.write.ensures.keeps;
  sound = c.write.ensures.sound;
  segments = moves_join c.args.self.now c.pieces.self c.write.new.self c.args.purse.now.pages c.pieces.purse.pages c.write.new.purse.pages c.pieces.invariant.segments c.write.ensures.segments;
  fits = c.write.ensures.fits;
  room = c.write.ensures.room ∙ c.pieces.invariant.room;
  own = c.write.ensures.own ∙ c.pieces.invariant.own;
}

pub returns-in-Err-clause-keeps : goal.returns-in-Err-clause-keeps
returns-in-Err-clause-keeps g c =
    keeps_told _ _ _ c.args.self.now c.pieces.self c.write.new.self c.args.purse.now.pages c.pieces.purse.pages c.write.new.purse.pages c.pieces.invariant.keeps c.write.ensures.keeps
