use Rattle.std.proofs.Common.{◌≡◌, map, drop}
use Rattle.flow_types.specs.Records.{tuple_of}
use Rattle.normal_key.specs.Comparisons.{ascending, items_cmp}
use Rattle.normal_key.proofs.compare.compare_key.Given as goal

abbrev pub invariant-loop-number : goal.invariant-loop-number
invariant-loop-number g l =
    items_cmp (map ascending l.key) (tuple_of l.schema (g.X.Span.seen l.a)) (tuple_of l.schema (g.X.Span.seen l.b))
    ≡ items_cmp (map ascending (drop l.number-index l.key)) (tuple_of l.schema (g.X.Span.seen l.a)) (tuple_of l.schema (g.X.Span.seen l.b))
