use Rattle.exchange_core.proofs.MachineLemmas.{others_stay}
use Rattle.exchange_core.proofs.laws.other_lanes_stay.Goals as goal

pub returns : goal.returns
returns c = others_stay
