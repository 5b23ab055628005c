use Rattle.worked_lots.proofs.WorkedLemmas.{writes_join, writes_of}
use Rattle.worked_lots.proofs.lots.twice.Goals as goal

pub returns-in-Ok : goal.returns-in-Ok
returns-in-Ok g c =
    writes_join _ _ _ c.args.lot.now c.settle.new.lot c.read_twice.new.lot c.args.purse.now c.settle.new.purse c.read_twice.new.purse c.settle.ensures.writes
    (writes_of _ _ c.settle.new.lot c.read_twice.new.lot c.settle.new.purse c.read_twice.new.purse c.read_twice.ensures)
