use Rattle.model_laws.proofs.SingleKeys.{chosen-single, merged-single}
use Rattle.model_laws.proofs.same_bags.solutions_have_single_keys.Goals as goal

pub returns : goal.returns
returns c = record { choice = chosen-single; merge = merged-single }
