use Rattle.std.proofs.Common.{ℕ, ◌∙◌, ap, sym, take, drop, length, arith}
use Rattle.expr_core.specs.Places.{text_bytes}
use Rattle.expr_core.proofs.TextLemmas.{cut_stops}
use Rattle.expr_core.proofs.text.place_to_cut.Goals as goal

pub returns-else-goes_on-clause-place : goal.returns-else-goes_on-clause-place
returns-else-goes_on-clause-place g c =
    cut_stops (text_bytes (g.R.Source.seen c.args.row.now) c.args.room.now c.args.text.now) c.piece.result.now c.loop-len.len
    (omega (arith, c.loop-len-test.true))
    (c.piece.ensures.bytes ∙ ap (λ (n : ℕ). take (length c.piece.result.now) (drop n (text_bytes (g.R.Source.seen c.args.row.now) c.args.room.now c.args.text.now))) c.from.ensures)
    c.piece.ensures.some (sym c.goes_on.ensures ∙ c.if-goes_on.false)
    ∙ c.loop-len.invariant.same
