use Rattle.std.proofs.Common.{ℕ, List, ◌++◌, take, slice_index_or, ap, sym, ◌∙◌}
use Rattle.flow_types.specs.declared.order_item.OrderItem.{OrderItem}
use Rattle.flow_types.specs.Tuples.{Tuple, field}
use Rattle.flow_types.specs.Records.{tuple_of}
use Rattle.normal_key.specs.Comparisons.{ascending}
use Rattle.normal_key.specs.NormalForms.{directed_form, items_form}
use Rattle.normal_key.proofs.WrittenLemmas.{adds_next, items_more}
use Rattle.normal_key.proofs.write.write_items.Goals as goal

pub loop-item-preserved : goal.loop-item-preserved
loop-item-preserved g c =
    let t : Tuple = tuple_of c.args.schema.now (g.X.Span.seen c.args.row.now) in
    let done : List ℕ = items_form (take c.loop-item.item-index c.args.items.now) t in
    let item : OrderItem = slice_index_or c.args.items.now c.loop-item.item-index (ascending 0) in
    adds_next c.args.prefix.now c.loop-item.prefix c.write_field.new.prefix done (directed_form item.down (field c.from.result t)) _
    c.loop-item.invariant c.write_field.ensures
    (ap (λ (k : ℕ). done ++ directed_form item.down (field k t)) c.from.ensures
    ∙ sym (items_more c.args.items.now c.loop-item.item-index (ascending 0) t c.loop-item-test.true))
