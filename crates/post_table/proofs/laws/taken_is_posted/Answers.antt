use Rattle.post_table.proofs.LaneLemmas.{taken_prefix, taken_whole}
use Rattle.post_table.proofs.laws.taken_is_posted.Goals as goal

pub returns : goal.returns
returns c = record { prefix = taken_prefix; whole = taken_whole }
