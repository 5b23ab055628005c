use Rattle.std.proofs.Common.{ap}
use Rattle.lot_store.proofs.StorageLot.{reads_kept}
use Rattle.lot_store.proofs.lot.Lot.rewind.Goals as goal

pub returns-clause-preserves : goal.returns-clause-preserves
returns-clause-preserves g c =
    reads_kept _ _ c.args.self.now c.begin_again.new.self c.args.purse.now c.begin_again.new.purse (ap g.D.Spill.told c.begin_again.ensures.disk) c.begin_again.ensures.keeps c.begin_again.ensures.pages c.begin_again.ensures.segments c.begin_again.ensures.room c.begin_again.ensures.reach
