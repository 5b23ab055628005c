use Rattle.std.proofs.Common.{◌≡◌, take, map}
use Rattle.flow_model.specs.Rules.{schema_in}
use Rattle.plan_check.proofs.schemas.schemas_at.Given as goal

abbrev pub invariant-loop-number : goal.invariant-loop-number
invariant-loop-number l = l.inputs.items ≡ map (schema_in l.done l.home) (take l.number-index l.numbers)
