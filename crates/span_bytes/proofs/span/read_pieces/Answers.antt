use Rattle.std.proofs.Common.{ℕ, ◌+◌, ◌<◌, take, arith, All, subst, sym}
use Rattle.span_bytes.proofs.PieceLemmas.{piece_within, read_more, read_all}
use Rattle.span_bytes.proofs.span.read_pieces.Goals as goal

pub loop-at-preserved : goal.loop-at-preserved
loop-at-preserved g c =
    let seen = g.X.Span.seen c.args.row.now in
    record {
      within = omega (arith, piece_within seen c.piece.result.now c.loop-at.at (omega arith) c.piece.ensures.bytes);
      bytes = subst (λ (n : ℕ). All (λ b. b < 256) (take (c.loop-at.at + n) (g.X.Span.seen c.args.row.now))) (sym c.byte_count-at.ensures.count)
          (read_more seen c.piece.result.now c.loop-at.at c.loop-at.invariant.bytes c.byte_count-at.ensures.bytes c.piece.ensures.bytes);
    }

pub returns : goal.returns
returns g c = read_all (g.X.Span.seen c.args.row.now) c.loop-at.at (omega arith) c.loop-at.invariant.bytes
