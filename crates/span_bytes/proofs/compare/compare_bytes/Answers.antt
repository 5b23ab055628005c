use Rattle.std.proofs.Common.{ℕ, List, sym, ◌∙◌, inl, inr, arith}
use Rattle.span_bytes.proofs.CompareLemmas.{compare_more, compare_found, compare_done}
use Rattle.span_bytes.proofs.PieceLemmas.{piece_within}
use Rattle.span_bytes.proofs.compare.compare_bytes.Goals as goal
use Rattle.span_bytes.proofs.compare.compare_bytes.Goals.{then-pieces-test+else-at-b_len, else-pieces-test}

pub pieces-preserved : goal.pieces-preserved
pieces-preserved g c =
    let x : List ℕ = g.A.Span.seen c.args.a.now in
    let y : List ℕ = g.B.Span.seen c.args.b.now in record {
      left = omega (arith, c.min-count.ensures, piece_within x c.piece-left.result.now c.pieces.at c.pieces.invariant.left c.piece-left.ensures.bytes);
      right = omega (arith, c.min-count.ensures, piece_within y c.piece-right.result.now c.pieces.at c.pieces.invariant.right c.piece-right.ensures.bytes);
      same = c.pieces.invariant.same ∙ compare_more x y
          c.piece-left.result.now c.piece-right.result.now c.pieces.at c.min-count.result c.piece-left.ensures.bytes c.piece-right.ensures.bytes
          (omega (arith, c.min-count.ensures)) (omega (arith, c.min-count.ensures)) (sym c.cmp.ensures ∙ c.in-Equal.is);
    }

pub returns-in_default : goal.returns-in_default
returns-in_default g c =
    sym (c.pieces.invariant.same ∙ compare_found (g.A.Span.seen c.args.a.now) (g.B.Span.seen c.args.b.now)
    c.piece-left.result.now c.piece-right.result.now c.pieces.at c.min-count.result c.piece-left.ensures.bytes c.piece-right.ensures.bytes
    (omega (arith, c.min-count.ensures)) (omega (arith, c.min-count.ensures)) c.cmp.result (sym c.cmp.ensures) c.in_default.not-Equal)

pub returns : goal.returns
returns g c =
    compare_done (g.A.Span.seen c.args.a.now) (g.B.Span.seen c.args.b.now) c.pieces.at c.len-a_len.result c.len-b_len.result c.cmp-2.result
    (sym c.len-a_len.ensures) (sym c.len-b_len.ensures)
    (omega (arith, c.pieces.invariant.left, c.len-a_len.ensures)) (omega (arith, c.pieces.invariant.right, c.len-b_len.ensures))
    (elim c.pieces-test.branch [ then-pieces-test+else-at-b_len w ↦ inr (omega (arith, w.if-at-b_len.false)) | else-pieces-test w ↦ inl (omega (arith, w.pieces-test.false)) ])
    c.pieces.invariant.same c.cmp-2.ensures
