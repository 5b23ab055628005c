use Rattle.std.proofs.Common.{◌≡◌, ◌++◌, map, ap, ◌∙◌}
use Rattle.flow_types.specs.Tuples.{key_of}
use Rattle.flow_model.specs.Env.{Tuples}
use Rattle.flow_model.specs.Rows.{columns_of, with_key, partners}
use Rattle.plain_ops.proofs.Steps.{flat_map_step}
use Rattle.plain_ops.proofs.join.pairs.Goals as goal

pub loop-row-preserved : goal.loop-row-preserved
loop-row-preserved c =
    let meeting = c.args.meeting.now in
    let index = c.args.right.now in
    let before = c.loop-row.rows.items in
    let own : c.values.result.now ≡ key_of meeting.left_key.now c.row-item.result = c.values.ensures ∙ c.in_ok-key.ensures ∙ ap (key_of meeting.left_key.now) c.values-tuple.ensures in
    let met : c.with_key-partners.result.now ≡ partners meeting.left_key.now index.key index.rows c.row-item.result = c.with_key-partners.ensures ∙ ap (λ k. with_key index.key k index.rows) own in
    flat_map_step (λ l. map (λ r. columns_of meeting.columns.now (l ++ r)) (partners meeting.left_key.now index.key index.rows l)) c.args.left.now c.loop-row.row-index c.row-item.result before c.push_pairs.new.rows.items c.loop-row-test.true c.row-item.is c.loop-row.invariant
    (c.in_ok-push_pairs.ensures
    ∙ ap (λ t. before ++ map (λ r. columns_of meeting.columns.now (t ++ r)) c.with_key-partners.result.now) c.values-tuple.ensures
    ∙ ap (λ (rows : Tuples). before ++ map (λ r. columns_of meeting.columns.now (c.row-item.result ++ r)) rows) met)
