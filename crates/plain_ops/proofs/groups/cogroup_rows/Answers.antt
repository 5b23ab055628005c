use Rattle.std.proofs.Common.{◌≡◌, [], ◌∷◌, ◌++◌, ap, ◌∙◌}
use Rattle.flow_model.specs.Env.{Tuples}
use Rattle.flow_model.specs.Rows.{folds_of, with_key}
use Rattle.plain_ops.proofs.Steps.{map_step}
use Rattle.plain_ops.proofs.groups.cogroup_rows.Goals as goal

pub loop-one-preserved : goal.loop-one-preserved
loop-one-preserved c =
    let a = c.args in
    let one = c.one-item.result in
    let before = c.loop-one.groups.items in
    let left : c.with_key-left_group.result.now ≡ with_key a.left_key.now one a.left.now = c.with_key-left_group.ensures ∙ c.in_ok-left_index.ensures c.values-key.result.now ∙ ap (λ k. with_key a.left_key.now k a.left.now) c.values-key.ensures in
    let right : c.with_key-right_group.result.now ≡ with_key a.right_key.now one a.right.now = c.with_key-right_group.ensures ∙ c.in_ok-right_index.ensures c.values-key.result.now ∙ ap (λ k. with_key a.right_key.now k a.right.now) c.values-key.ensures in
    map_step (λ k. k ++ (folds_of a.left_aggs.now (with_key a.left_key.now k a.left.now) ++ folds_of a.right_aggs.now (with_key a.right_key.now k a.right.now))) c.deref-one-items.result.now c.loop-one.one-index one before c.push_row.new.rows.items c.loop-one-test.true c.one-item.is c.loop-one.invariant
    (c.in_ok-push_row.ensures
    ∙ ap (λ group. before ++ group ∷ []) (c.in_ok-group.ensures
    ∙ ap (λ k. k ++ (folds_of a.left_aggs.now c.with_key-left_group.result.now ++ folds_of a.right_aggs.now c.with_key-right_group.result.now)) c.values-key.ensures
    ∙ ap (λ (rows : Tuples). one ++ (folds_of a.left_aggs.now rows ++ folds_of a.right_aggs.now c.with_key-right_group.result.now)) left
    ∙ ap (λ (rows : Tuples). one ++ (folds_of a.left_aggs.now (with_key a.left_key.now one a.left.now) ++ folds_of a.right_aggs.now rows)) right))
