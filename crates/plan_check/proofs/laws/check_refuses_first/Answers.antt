use Rattle.plan_check.proofs.FirstFaults.{refuses_first}
use Rattle.plan_check.proofs.laws.check_refuses_first.Goals as goal

pub returns : goal.returns
returns c = refuses_first
