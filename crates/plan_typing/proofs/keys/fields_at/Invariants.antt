use Rattle.std.proofs.Common.{◌≡◌, drop}
use Rattle.flow_model.specs.Schemas.{fields_at}
use Rattle.plan_typing.proofs.WidenLemmas.{onto}
use Rattle.plan_typing.proofs.keys.fields_at.Given as goal

abbrev pub invariant-loop-number : goal.invariant-loop-number
invariant-loop-number l = fields_at l.fields l.key ≡ onto l.types.items (fields_at l.fields (drop l.number-index l.key))
