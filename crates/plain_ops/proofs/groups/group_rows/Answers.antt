use Rattle.std.proofs.Common.{◌≡◌, [], ◌∷◌, ◌++◌, ap, ◌∙◌}
use Rattle.flow_model.specs.Env.{Tuples}
use Rattle.flow_model.specs.Rows.{folds_of, with_key}
use Rattle.plain_ops.proofs.Steps.{map_step}
use Rattle.plain_ops.proofs.groups.group_rows.Goals as goal

pub loop-one-preserved : goal.loop-one-preserved
loop-one-preserved c =
    let a = c.args in
    let one = c.one-item.result in
    let before = c.loop-one.groups.items in
    let met : c.with_key.result.now ≡ with_key a.key.now one a.rows.now = c.with_key.ensures ∙ c.in_ok-index.ensures c.values.result.now ∙ ap (λ k. with_key a.key.now k a.rows.now) c.values.ensures in
    map_step (λ k. k ++ folds_of a.aggs.now (with_key a.key.now k a.rows.now)) c.deref-one-items.result.now c.loop-one.one-index one before c.push_row.new.rows.items c.loop-one-test.true c.one-item.is c.loop-one.invariant
    (c.in_ok-push_row.ensures ∙ ap (λ group. before ++ group ∷ []) (c.in_ok-group.ensures ∙ ap (λ (rows : Tuples). one ++ folds_of a.aggs.now rows) met))
