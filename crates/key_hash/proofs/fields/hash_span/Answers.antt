use Rattle.std.proofs.Common.{arith}
use Rattle.key_hash.proofs.PieceLemmas.{hashed_more}
use Rattle.key_hash.proofs.fields.hash_span.Goals as goal

pub loop-at-preserved : goal.loop-at-preserved
loop-at-preserved g c = record {
  began = omega arith;
  order = omega arith;
  same = hashed_more c.args.hash c.loop-at.so_far c.hash_bytes-so_far.result (g.X.Span.seen c.args.row.now) c.piece-piece.result.now
      c.args.start c.loop-at.at c.min-count.result c.loop-at.invariant.began (omega arith) c.piece-piece.ensures.bytes c.loop-at.invariant.same
      c.hash_bytes-so_far.ensures;
}
