use Rattle.exchange_core.proofs.MachineLemmas.{not_ready}
use Rattle.exchange_core.proofs.laws.refused_by_the_mailbox.Goals as goal

pub returns : goal.returns
returns c = not_ready
