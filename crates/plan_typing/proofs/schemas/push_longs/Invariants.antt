use Rattle.std.proofs.Common.{◌≡◌, ◌++◌}
use Rattle.std.specs.Prelude.{replicate}
use Rattle.flow_types.specs.declared.field_type.FieldType.TheVariants as type
use Rattle.plan_typing.proofs.schemas.push_longs.Given as goal

abbrev pub invariant-loop : goal.invariant-loop
invariant-loop l = l.types.items ≡ l.initial.types.items ++ replicate l.counter type.Long
