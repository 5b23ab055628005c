use Rattle.lot_store.proofs.ReadLemmas.{none_read}
use Rattle.lot_store.proofs.lot.Lot.begin.Goals as goal

pub returns-clause-none : goal.returns-clause-none
returns-clause-none c = none_read c.self.inside.stored.run c.hand_over.new.feed.run c.hand_over.ensures.over.begins
