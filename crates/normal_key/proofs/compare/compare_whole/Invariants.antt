use Rattle.std.proofs.Common.{◌≡◌, drop}
use Rattle.flow_types.specs.Tuples.{tuple_cmp}
use Rattle.flow_types.specs.Records.{tuple_of}
use Rattle.normal_key.proofs.compare.compare_whole.Given as goal

abbrev pub invariant-loop-number : goal.invariant-loop-number
invariant-loop-number g l =
    tuple_cmp (tuple_of l.schema (g.X.Span.seen l.a)) (tuple_of l.schema (g.X.Span.seen l.b))
    ≡ tuple_cmp (drop l.number (tuple_of l.schema (g.X.Span.seen l.a))) (drop l.number (tuple_of l.schema (g.X.Span.seen l.b)))
