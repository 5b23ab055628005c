use Rattle.std.proofs.Common.{arith}
use Rattle.std.proofs.lemmas.List.{length-take-le}
use Rattle.std.proofs.Common.{drop, length-drop}
use Rattle.span_bytes.proofs.CompareLemmas.{piece_at}
use Rattle.span_bytes.proofs.part.PartSpan.piece.Goals as goal

pub returns-clause-bytes : goal.returns-clause-bytes
returns-clause-bytes g c =
    let seen = g.X.Span.seen c.args.self.now.row.now in
    let s = c.args.self.now in
    piece_at s.start c.args.from s.len c.min.result seen c.piece-piece.result.now c.piece-piece.ensures.bytes
    (omega (arith, c.requires, length-take-le s.len (drop s.start seen) (omega (arith, s.inside, length-drop s.start seen))))
    (omega (arith, c.min.ensures)) (omega (arith, c.min.ensures))
