use Rattle.std.proofs.Common.{arith, refl, take}
use Rattle.std.proofs.lemmas.Slice.{pushed}
use Rattle.record_codec.proofs.DecodeLemmas.{copied_more}
use Rattle.record_codec.proofs.decode.copy_of.Goals as goal

pub loop-at-preserved : goal.loop-at-preserved
loop-at-preserved g c = record {
  began = omega arith;
  order = omega arith;
  same = copied_more (g.X.Span.seen c.args.row.now) c.loop-at.bytes.items c.extend_from_slice.new.self.items c.piece-piece.result.now
      c.args.start c.loop-at.at c.min-count.result c.loop-at.invariant.began (omega arith) c.piece-piece.ensures.bytes c.loop-at.invariant.same
      (pushed {was = c.loop-at.bytes.items} (take c.min-count.result c.piece-piece.result.now) refl c.in_ok-extend_from_slice.was c.extend_from_slice.ensures.items);
}
