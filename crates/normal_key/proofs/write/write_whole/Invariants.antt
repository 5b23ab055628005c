use Rattle.std.proofs.Common.{take}
use Rattle.std.specs.List.{flat_map}
use Rattle.flow_types.specs.Records.{tuple_of}
use Rattle.normal_key.specs.NormalForms.{Adds, normal_form}
use Rattle.normal_key.proofs.write.write_whole.Given as goal

abbrev pub invariant-loop-number : goal.invariant-loop-number
invariant-loop-number g l =
    Adds l.fn.prefix l.prefix (flat_map normal_form (take l.number (tuple_of l.schema (g.X.Span.seen l.row))))
