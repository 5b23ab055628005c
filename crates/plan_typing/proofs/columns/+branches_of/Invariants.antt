use Rattle.std.proofs.Common.{length}
use Rattle.plan_typing.proofs.columns.+branches_of.Given as goal

abbrev pub decreases-branches_of : goal.decreases-branches_of
decreases-branches_of l = length l.branches.now
