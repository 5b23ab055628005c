use Rattle.std.proofs.Common.{◌≡◌, drop}
use Rattle.flow_model.specs.Schemas.{both_widened}
use Rattle.plan_typing.proofs.WidenLemmas.{onto}
use Rattle.plan_typing.proofs.widen.both_widened.Given as goal

abbrev pub invariant-loop-i : goal.invariant-loop-i
invariant-loop-i l = both_widened l.a l.b ≡ onto l.types.items (both_widened (drop l.i l.a) (drop l.i l.b))
