use Rattle.std.proofs.Common.{◌≡◌, ◌∙◌, arith, ap, length, drop}
use Rattle.std.proofs.lemmas.List.{length-drop, length-take}
use Rattle.paged_view.proofs.FillLemmas.{added_piece, whole_piece}
use Rattle.paged_view.proofs.fill.add_span.Goals as goal

pub pieces-preserved : goal.pieces-preserved
pieces-preserved g c =
    let seen = g.X.Span.seen c.args.row.now in
    let piece = c.piece-piece.result.now in
    let whole : c.add_bytes-at.result ≡ length piece =
    whole_piece c.args.page.now c.pieces.page seen piece c.pieces.at c.add_bytes-at.result c.pieces.invariant.same c.pieces.invariant.used_now c.requires c.pieces.invariant.within c.piece-piece.ensures.bytes c.add_bytes-at.ensures.count in
    record {
      bytes = added_piece c.args.page.now c.pieces.page c.add_bytes-at.new.page seen piece c.pieces.at c.add_bytes-at.result whole c.piece-piece.ensures.bytes c.pieces.invariant.bytes c.add_bytes-at.ensures.used_bytes;
      used_now = omega (arith, c.add_bytes-at.ensures.used, whole, c.pieces.invariant.used_now);
      same = record {
        id = c.add_bytes-at.ensures.same.id ∙ c.pieces.invariant.same.id;
        len = c.add_bytes-at.ensures.same.len ∙ c.pieces.invariant.same.len;
      };
      within = omega (arith, c.pieces.invariant.within, ap length c.piece-piece.ensures.bytes, length-take (length piece) (drop c.pieces.at seen), length-drop c.pieces.at seen);
    }
