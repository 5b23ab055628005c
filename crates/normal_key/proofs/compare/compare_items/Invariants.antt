use Rattle.std.proofs.Common.{◌≡◌, drop}
use Rattle.flow_types.specs.Records.{tuple_of}
use Rattle.normal_key.specs.Comparisons.{items_cmp}
use Rattle.normal_key.proofs.compare.compare_items.Given as goal

abbrev pub invariant-loop-item : goal.invariant-loop-item
invariant-loop-item g l =
    items_cmp l.items (tuple_of l.schema (g.X.Span.seen l.a)) (tuple_of l.schema (g.X.Span.seen l.b))
    ≡ items_cmp (drop l.item-index l.items) (tuple_of l.schema (g.X.Span.seen l.a)) (tuple_of l.schema (g.X.Span.seen l.b))
