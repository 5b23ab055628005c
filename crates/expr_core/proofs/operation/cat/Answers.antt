use Rattle.std.proofs.Common.{ℕ, drop, ap, ◌∙◌}
use Rattle.expr_core.specs.Places.{text_bytes, held_by}
use Rattle.expr_core.proofs.SeenLemmas.{cat_joined}
use Rattle.expr_core.proofs.operation.cat.Goals as goal

pub returns-clause-bytes : goal.returns-clause-bytes
returns-clause-bytes g c =
    cat_joined (g.R.Source.seen c.args.row.now) c.args.room.now c.put_behind.new.room c.bring.new.room
    (text_bytes (g.R.Source.seen c.args.row.now) (drop (held_by c.args.a.now.len c.args.a.now.origin) c.args.room.now) c.args.b.now)
    c.args.a.now c.args.b.now.len c.from.result c.from.ensures
    (c.put_behind.ensures.bytes ∙ ap (λ (n : ℕ). text_bytes (g.R.Source.seen c.args.row.now) (drop n c.args.room.now) c.args.b.now) c.held.ensures) c.put_behind.ensures.front c.bring.ensures.front c.bring.ensures.rest
