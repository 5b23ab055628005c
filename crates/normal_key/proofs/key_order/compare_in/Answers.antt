use Rattle.std.proofs.Common.{◌∙◌, sym}
use Rattle.std.proofs.lemmas.Bool.{cond-true, cond-false}
use Rattle.std.specs.declared.cmp.Ordering.TheVariants.{Equal}
use Rattle.flow_types.specs.Tuples.{Tuple, tuple_cmp}
use Rattle.flow_types.specs.Records.{tuple_of}
use Rattle.normal_key.proofs.OrderLemmas.{by_key, by_items, by_whole}
use Rattle.normal_key.proofs.key_order.compare_in.Goals as goal

pub returns-in_default : goal.returns-in_default
returns-in_default g c =
    let t : Tuple = tuple_of c.args.order.now.schema.now (g.X.Span.seen c.args.a.now) in
    let u : Tuple = tuple_of c.args.order.now.schema.now (g.X.Span.seen c.args.b.now) in
    by_key c.args.order.now.key.now c.args.order.now.items.now c.args.order.now.whole t u c.compare_key.result
    c.compare_key.ensures c.in_default.not-Equal

pub returns-in_default-compare_items : goal.returns-in_default-compare_items
returns-in_default-compare_items g c =
    let t : Tuple = tuple_of c.args.order.now.schema.now (g.X.Span.seen c.args.a.now) in
    let u : Tuple = tuple_of c.args.order.now.schema.now (g.X.Span.seen c.args.b.now) in
    by_items c.args.order.now.key.now c.args.order.now.items.now c.args.order.now.whole t u c.compare_items.result c.compare_key.result
    c.compare_key.ensures c.in-Equal.is c.compare_items.ensures c.in_default-compare_items.not-Equal

pub returns-then-order : goal.returns-then-order
returns-then-order g c =
    let t : Tuple = tuple_of c.args.order.now.schema.now (g.X.Span.seen c.args.a.now) in
    let u : Tuple = tuple_of c.args.order.now.schema.now (g.X.Span.seen c.args.b.now) in
    by_whole c.args.order.now.key.now c.args.order.now.items.now c.args.order.now.whole t u c.compare_whole.result c.compare_key.result c.compare_items.result
    c.compare_key.ensures c.in-Equal.is c.compare_items.ensures c.in-Equal-compare_items.is
    (c.compare_whole.ensures ∙ sym (cond-true c.args.order.now.whole (tuple_cmp t u) Equal c.if-order.true))

pub returns : goal.returns
returns g c =
    let t : Tuple = tuple_of c.args.order.now.schema.now (g.X.Span.seen c.args.a.now) in
    let u : Tuple = tuple_of c.args.order.now.schema.now (g.X.Span.seen c.args.b.now) in
    by_whole c.args.order.now.key.now c.args.order.now.items.now c.args.order.now.whole t u Equal c.compare_key.result c.compare_items.result
    c.compare_key.ensures c.in-Equal.is c.compare_items.ensures c.in-Equal-compare_items.is
    (sym (cond-false c.args.order.now.whole (tuple_cmp t u) Equal c.if-order.false))
