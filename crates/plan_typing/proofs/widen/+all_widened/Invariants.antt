use Rattle.std.proofs.Common.{length}
use Rattle.plan_typing.proofs.widen.+all_widened.Given as goal

abbrev pub decreases-all_widened : goal.decreases-all_widened
decreases-all_widened l = length l.schemas.now
