use Rattle.exchange_core.proofs.MachineLemmas.{first_refusal}
use Rattle.exchange_core.proofs.laws.refused_at_the_first.Goals as goal

pub returns : goal.returns
returns c = first_refusal
