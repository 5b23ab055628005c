use Rattle.std.proofs.Common.{ap}
use Rattle.worked_lots.proofs.WorkedLemmas.{can_read_on, known_begun, reads_join, ready_of}
use Rattle.worked_lots.proofs.lots.read_again.Goals as goal

pub rewind-begun-requires-clause-ready : goal.rewind-begun-requires-clause-ready
rewind-begun-requires-clause-ready g c =
    ready_of _ c.args.lot.now c.args.purse.now c.requires.can.stands

pub read-requires-clause-known : goal.read-requires-clause-known
read-requires-clause-known g c =
    known_begun _ _ c.args.lot.now c.rewind-begun.new.self (ap g.D.Spill.told c.rewind-begun.ensures.disk) c.requires.can.holds c.rewind-begun.ensures.rows

pub returns-clause-reads : goal.returns-clause-reads
returns-clause-reads g c =
    reads_join _ _ _ c.args.lot.now c.rewind-begun.new.self c.read.new.lot c.args.purse.now c.rewind-begun.new.purse c.rewind-begun.new.purse c.rewind-begun.ensures.preserves (c.read.ensures.reads c.rewind-begun.new.purse)

pub returns-clause-can : goal.returns-clause-can
returns-clause-can g c =
    can_read_on _ _ c.args.lot.now c.read.new.lot c.args.purse.now c.rewind-begun.new.purse c.requires.can c.read.ensures.ready (returns-clause-reads g c)
