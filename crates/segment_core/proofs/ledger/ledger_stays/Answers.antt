-- The law is a lemma on what all holders weigh.
use Rattle.segment_core.proofs.Holders.{KeepsLedger-segment_sum_all}
use Rattle.segment_core.proofs.ledger.ledger_stays.Goals as goal

pub returns : goal.returns
returns g c = KeepsLedger-segment_sum_all g.change.before g.change.after c.requires
