use Rattle.std.proofs.Common.{ap, sym, ◌∙◌, List, ℕ, ◌++◌, map}
use Rattle.std.proofs.lemmas.List.Concat.{flat_map-append}
use Rattle.flow_types.specs.declared.order_item.OrderItem.{OrderItem}
use Rattle.flow_types.specs.Tuples.{Tuple, field}
use Rattle.flow_types.specs.Records.{tuple_of}
use Rattle.normal_key.specs.Comparisons.{ascending}
use Rattle.normal_key.specs.NormalForms.{directed_form, filled, items_form, whole_form}
use Rattle.normal_key.proofs.WrittenLemmas.{all_written}
use Rattle.normal_key.proofs.key_order.prefix_in.Goals as goal

pub returns : goal.returns
returns g c =
    let t : Tuple = tuple_of c.args.order.now.schema.now (g.X.Span.seen c.args.row.now) in
    let key : List OrderItem = map ascending c.args.order.now.key.now in
    let items : List OrderItem = c.args.order.now.items.now in
    let last : List ℕ = whole_form c.args.order.now.whole t in
    all_written c.new-prefix.result c.write_key.new.prefix c.write_items.new.prefix c.write_whole.new.prefix (items_form key t) (items_form items t) last c.into_bytes.result
    c.new-prefix.ensures c.write_key.ensures c.write_items.ensures c.write_whole.ensures c.into_bytes.ensures
    ∙ ap (λ (bs : List ℕ). filled (bs ++ last)) (sym (flat_map-append (λ (i : OrderItem). directed_form i.down (field i.field t)) key items))
