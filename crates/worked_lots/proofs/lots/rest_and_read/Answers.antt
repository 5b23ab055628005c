use Rattle.worked_lots.proofs.WorkedLemmas.{can_read_untold, ready_untold, writes_join, writes_of}
use Rattle.worked_lots.proofs.lots.rest_and_read.Goals as goal

pub rest-requires : goal.rest-requires
rest-requires g c =
    ready_untold _ c.args.lot.now c.args.purse.now c.requires.untold c.requires.room

pub read_twice-requires-clause-can : goal.read_twice-requires-clause-can
read_twice-requires-clause-can g c =
    can_read_untold _ _ c.args.lot.now c.rest.new.self c.args.purse.now c.rest.new.purse c.requires.untold c.requires.room c.requires.enough c.rest.ensures.preserves c.rest.ensures.rests

pub returns-in-Ok : goal.returns-in-Ok
returns-in-Ok g c =
    writes_join _ _ _ c.args.lot.now c.rest.new.self c.read_twice.new.lot c.args.purse.now c.rest.new.purse c.read_twice.new.purse c.rest.ensures.preserves
    (writes_of _ _ c.rest.new.self c.read_twice.new.lot c.rest.new.purse c.read_twice.new.purse c.read_twice.ensures)
