use Rattle.std.proofs.Common.{map, take}
use Rattle.flow_types.specs.Records.{tuple_of}
use Rattle.normal_key.specs.Comparisons.{ascending}
use Rattle.normal_key.specs.NormalForms.{Adds, items_form}
use Rattle.normal_key.proofs.write.write_key.Given as goal

abbrev pub invariant-loop-number : goal.invariant-loop-number
invariant-loop-number g l =
    Adds l.fn.prefix l.prefix (items_form (map ascending (take l.number-index l.key)) (tuple_of l.schema (g.X.Span.seen l.row)))
