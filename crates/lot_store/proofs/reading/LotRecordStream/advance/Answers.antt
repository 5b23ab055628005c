use Rattle.lot_store.proofs.StorageLot.{same_held}
use Rattle.lot_store.proofs.reading.LotRecordStream.advance.Goals as goal

pub returns-clause-segments : goal.returns-clause-segments
returns-clause-segments g c = same_held _ _ c.args.self.now c.read_next.new.self c.read_next.ensures.preserves
