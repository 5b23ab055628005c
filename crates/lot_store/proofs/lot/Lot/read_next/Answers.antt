use Rattle.lot_store.proofs.StorageLot.{reads_advanced}
use Rattle.lot_store.proofs.lot.Lot.read_next.Goals as goal

pub returns-clause-preserves : goal.returns-clause-preserves
returns-clause-preserves g c = λ purse.
    reads_advanced _ _ c.args.self.now c.step.new.self purse c.step.ensures.tells c.step.ensures.stands c.step.ensures.pages c.step.ensures.segments c.step.ensures.reach
