use Rattle.model_laws.proofs.PlanBags.{eval-same, supersteps-same, full-same}
use Rattle.model_laws.proofs.same_bags.plans_keep_bags.Goals as goal

pub returns : goal.returns
returns c = record { result = eval-same; steps = supersteps-same; fullness = full-same }
