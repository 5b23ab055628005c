-- The lot's segments are the purse's.
use Rattle.std.proofs.Common.{ap, is_ok}
use Rattle.lot_store.specs.Lots.{held}
use Rattle.superstep.proofs.Emits.{dropped_sum}
use Rattle.superstep.proofs.closing.drop_lent.Goals as goal

pub returns-clause-segments : goal.returns-clause-segments
returns-clause-segments g c = λ h.
    dropped_sum h (g.D.Spill.told c.args.disk.now) (g.D.Spill.told c.drop_lot-dropped.new.disk) c.args.purse c.drop_lot-dropped.new.purse c.args.place c.drop_lot-dropped.new.self (is_ok c.drop_lot-dropped.result) (ap held c.drop_lot-dropped.ensures.empty) c.drop_lot-dropped.ensures.preserves
