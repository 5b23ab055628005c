use Rattle.std.proofs.Common.{ap, ◌∙◌}
use Rattle.flow_types.specs.Tuples.{Tuple}
use Rattle.flow_types.specs.Values.{flag_of}
use Rattle.flow_types.specs.Expressions.{val}
use Rattle.plain_ops.proofs.Steps.{filter_step}
use Rattle.plain_ops.proofs.row_ops.filter_rows.Goals as goal

pub loop-row-preserved : goal.loop-row-preserved
loop-row-preserved c =
    filter_step (λ t. flag_of (val t c.args.test.now)) c.args.rows.now c.loop-row.row-index c.row-item.result c.in_ok-keep.keep c.loop-row.kept.items c.push_if.new.rows.items c.loop-row-test.true c.row-item.is (c.in_ok-keep.ensures ∙ ap (λ (t : Tuple). flag_of (val t c.args.test.now)) c.values.ensures) c.loop-row.invariant c.in_ok-push_if.ensures
