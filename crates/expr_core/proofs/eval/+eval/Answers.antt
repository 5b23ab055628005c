use Rattle.std.proofs.Common.{length, arith}
use Rattle.expr_core.proofs.ExprLemmas.{both_short, both_done, parts_right, parts_then, parts_else, typed_right, typed_then, typed_else, room_right, room_then, room_else}
use Rattle.expr_core.proofs.SeenLemmas.{held_room}
use Rattle.expr_core.proofs.eval.+eval.Goals as goal

pub apply_two-requires-clause-short : goal.apply_two-requires-clause-short
apply_two-requires-clause-short g t c =
    both_short (g.R.Source.seen c.args.row.now) c.eval-a-in-Bin.new.room c.eval-b.new.room _ c.held.result (g.R.Source.tuple c.args.row.now)
    c.in-Bin.op c.eval-a-in-Bin.result c.eval-b.result c.args.expr.now c.in-Bin.a c.in-Bin.b c.get-in-Bin.result.now c.get-in-Bin-2.result.now
    (g.R.Source.fields c.args.row.now) c.in-Bin.is c.get-in-Bin.ensures c.get-in-Bin-2.ensures c.held.ensures
    c.eval-a-in-Bin.ensures.inside c.eval-b.ensures.inside c.eval-a-in-Bin.ensures.value c.eval-b.ensures.value
    (held_room (g.R.Source.seen c.args.row.now) c.eval-a-in-Bin.new.room c.eval-a-in-Bin.result c.held.result c.held.ensures c.eval-a-in-Bin.ensures.inside)
    c.requires.fitting c.requires.typed

pub returns-in-Bin-clause-value : goal.returns-in-Bin-clause-value
returns-in-Bin-clause-value g t c =
    both_done (g.R.Source.seen c.args.row.now) c.eval-a-in-Bin.new.room c.eval-b.new.room _ c.held.result (g.R.Source.tuple c.args.row.now)
    c.in-Bin.op c.eval-a-in-Bin.result c.eval-b.result c.args.expr.now c.in-Bin.a c.in-Bin.b c.get-in-Bin.result.now c.get-in-Bin-2.result.now
    (g.R.Source.fields c.args.row.now) c.in-Bin.is c.get-in-Bin.ensures c.get-in-Bin-2.ensures c.held.ensures
    c.eval-a-in-Bin.ensures.inside c.eval-b.ensures.inside c.eval-a-in-Bin.ensures.value c.eval-b.ensures.value
    (held_room (g.R.Source.seen c.args.row.now) c.eval-a-in-Bin.new.room c.eval-a-in-Bin.result c.held.result c.held.ensures c.eval-a-in-Bin.ensures.inside)
    _ c.apply_two.ensures.value

pub eval-b-requires : goal.eval-b-requires
eval-b-requires g t c κs within = (
  omega (arith, parts_right c.args.expr.now c.in-Bin.op c.in-Bin.a c.in-Bin.b c.get-in-Bin-2.result.now c.get-in-Bin-2.ensures c.in-Bin.is, c.decreases),
  (
    within,
    (
      c.requires.whole,
      (
        c.requires.fitting,
        (
          typed_right (g.R.Source.fields c.args.row.now) c.args.expr.now c.in-Bin.op c.in-Bin.a c.in-Bin.b c.get-in-Bin-2.result.now c.get-in-Bin-2.ensures c.in-Bin.is c.requires.typed,
          room_right c.args.expr.now c.in-Bin.op c.in-Bin.a c.in-Bin.b c.get-in-Bin-2.result.now (g.R.Source.seen c.args.row.now) c.eval-a-in-Bin.new.room c.eval-a-in-Bin.result _ c.held.result (length c.args.room.now)
              c.get-in-Bin-2.ensures c.in-Bin.is c.requires.space c.eval-a-in-Bin.auto.room c.held.ensures c.eval-a-in-Bin.ensures.inside c.eval-a-in-Bin.ensures.value c.eval-a-in-Bin.ensures.short,
        ),
      ),
    ),
  ),
)

pub eval-requires : goal.eval-requires
eval-requires g t c κs within = (
  omega (arith, parts_then c.args.expr.now c.in-If.c c.in-If.a c.in-If.b c.get-then-flag.result.now c.get-then-flag.ensures c.in-If.is, c.decreases),
  (
    within,
    (
      c.requires.whole,
      (
        c.requires.fitting,
        (
          typed_then (g.R.Source.fields c.args.row.now) c.args.expr.now c.in-If.c c.in-If.a c.in-If.b c.get-then-flag.result.now c.get-then-flag.ensures c.in-If.is c.requires.typed,
          room_then c.args.expr.now c.in-If.c c.in-If.a c.in-If.b c.get-then-flag.result.now _ (length c.args.room.now) c.get-then-flag.ensures c.in-If.is c.requires.space c.eval-c.auto.room,
        ),
      ),
    ),
  ),
)

pub eval-requires-else-flag : goal.eval-requires-else-flag
eval-requires-else-flag g t c κs within = (
  omega (arith, parts_else c.args.expr.now c.in-If.c c.in-If.a c.in-If.b c.get-else-flag.result.now c.get-else-flag.ensures c.in-If.is, c.decreases),
  (
    within,
    (
      c.requires.whole,
      (
        c.requires.fitting,
        (
          typed_else (g.R.Source.fields c.args.row.now) c.args.expr.now c.in-If.c c.in-If.a c.in-If.b c.get-else-flag.result.now c.get-else-flag.ensures c.in-If.is c.requires.typed,
          room_else c.args.expr.now c.in-If.c c.in-If.a c.in-If.b c.get-else-flag.result.now _ (length c.args.room.now) c.get-else-flag.ensures c.in-If.is c.requires.space c.eval-c.auto.room,
        ),
      ),
    ),
  ),
)
