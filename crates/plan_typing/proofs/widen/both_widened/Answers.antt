use Rattle.plan_typing.proofs.WidenLemmas.{both_widened_length}
use Rattle.plan_typing.proofs.widen.both_widened.Goals as goal

pub returns-then-a-b : goal.returns-then-a-b
returns-then-a-b c = both_widened_length c.args.a.now c.args.b.now c.if-a-b.true
