use Rattle.std.proofs.Common.{take}
use Rattle.flow_types.specs.Records.{tuple_of}
use Rattle.normal_key.specs.NormalForms.{Adds, items_form}
use Rattle.normal_key.proofs.write.write_items.Given as goal

abbrev pub invariant-loop-item : goal.invariant-loop-item
invariant-loop-item g l =
    Adds l.fn.prefix l.prefix (items_form (take l.item-index l.items) (tuple_of l.schema (g.X.Span.seen l.row)))
