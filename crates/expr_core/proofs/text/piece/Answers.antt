use Rattle.std.proofs.Common.{ℕ, ◌+◌, ◌-◌, List, length, take, drop, sym, ◌∙◌, ap, arith}
use Rattle.expr_core.specs.declared.seen.Origin.{Origin}
use Rattle.expr_core.specs.Places.{origin_bytes}
use Rattle.span_bytes.proofs.CompareLemmas.{piece_of, piece_at}
use Rattle.expr_core.proofs.text.piece.Goals as goal

pub returns-in-Record-clause-bytes : goal.returns-in-Record-clause-bytes
returns-in-Record-clause-bytes g c =
    let seen : List ℕ = g.R.Source.seen c.args.row.now in
    let part : List ℕ = take c.min.result c.piece-piece.result.now in
    piece_at c.in-Record.start c.args.from c.args.text.now.len c.min.result seen c.piece-piece.result.now
    (c.piece-piece.ensures.bytes ∙ ap (λ (n : ℕ). take (length c.piece-piece.result.now) (drop (n + c.args.from) seen)) c.from.ensures)
    (omega (arith, c.requires.from)) (omega (arith, c.min.ensures, c.from-len.ensures)) (omega (arith, c.min.ensures))
    ∙ ap (λ (o : Origin). take (length part) (drop c.args.from (take c.args.text.now.len (origin_bytes seen c.args.room.now o)))) (sym c.in-Record.is)

pub returns-in-Literal-clause-bytes : goal.returns-in-Literal-clause-bytes
returns-in-Literal-clause-bytes g c =
    let seen : List ℕ = g.R.Source.seen c.args.row.now in
    let n : ℕ = c.from-len.result - c.args.from in
    piece_of c.args.from c.args.text.now.len n c.in-Literal.bytes.now (omega (arith, c.requires.from)) (omega (arith, c.from-len.ensures))
    ∙ ap (λ (o : Origin). take (length (take n (drop c.args.from c.in-Literal.bytes.now))) (drop c.args.from (take c.args.text.now.len (origin_bytes seen c.args.room.now o)))) (sym c.in-Literal.is)

pub returns-in-Room-clause-bytes : goal.returns-in-Room-clause-bytes
returns-in-Room-clause-bytes g c =
    let seen : List ℕ = g.R.Source.seen c.args.row.now in
    let n : ℕ = c.from-len.result - c.args.from in
    piece_of c.args.from c.args.text.now.len n c.args.room.now (omega (arith, c.requires.from)) (omega (arith, c.from-len.ensures))
    ∙ ap (λ (o : Origin). take (length (take n (drop c.args.from c.args.room.now))) (drop c.args.from (take c.args.text.now.len (origin_bytes seen c.args.room.now o)))) (sym c.in-Room.is)
