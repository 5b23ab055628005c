-- One piece more was added.
use Rattle.std.proofs.Common.{arith, ◌∙◌}
use Rattle.paged_view.proofs.WritingLemmas.{piece_within}
use Rattle.lot_store.proofs.FullLemmas.{full_join}
use Rattle.lot_store.proofs.StepLemmas.{adds_piece, keeps_told, moves_join}
use Rattle.lot_store.proofs.stored.StoredPages.write.Goals as goal

pub pieces-preserved : goal.pieces-preserved
pieces-preserved g c = record {
  within = piece_within _ _ _ c.pieces.invariant.within c.in-Ok.ensures.within;
  supply = c.in-Ok.ensures.supply;
  later = omega (arith, c.pieces.invariant.later, c.write_piece.ensures.cause.later);
  added = adds_piece _ _ _ c.args.self.now c.pieces.self c.write_piece.new.self c.args.bytes.now c.pieces.at c.in-Ok.count c.pieces.invariant.added c.in-Ok.ensures.added;
  full = full_join _ _ _ c.args.self.now c.pieces.self c.write_piece.new.self c.args.purse.now.pages c.pieces.purse.pages c.pieces.invariant.full c.pieces.invariant.keeps c.in-Ok.ensures.full;
  keeps = keeps_told _ _ _ c.args.self.now c.pieces.self c.write_piece.new.self c.args.purse.now.pages c.pieces.purse.pages c.write_piece.new.purse.pages c.pieces.invariant.keeps c.write_piece.ensures.keeps;
  sound = c.write_piece.ensures.sound;
  segments = moves_join c.args.self.now c.pieces.self c.write_piece.new.self c.args.purse.now.pages c.pieces.purse.pages c.write_piece.new.purse.pages c.pieces.invariant.segments c.write_piece.ensures.segments;
  fits = c.write_piece.ensures.fits;
  room = c.write_piece.ensures.room ∙ c.pieces.invariant.room;
  own = c.write_piece.ensures.own ∙ c.pieces.invariant.own;
}

pub returns-in-Err-clause-keeps : goal.returns-in-Err-clause-keeps
returns-in-Err-clause-keeps g c =
    keeps_told _ _ _ c.args.self.now c.pieces.self c.write_piece.new.self c.args.purse.now.pages c.pieces.purse.pages c.write_piece.new.purse.pages c.pieces.invariant.keeps c.write_piece.ensures.keeps
