use Rattle.worked_lots.proofs.WorkedLemmas.{can_read_rested, enough_on, ready_of, writes_join}
use Rattle.worked_lots.proofs.lots.settle.Goals as goal

pub rest-requires : goal.rest-requires
rest-requires g c =
    ready_of _ c.fill.new.lot c.fill.new.purse c.in-Ok.ensures.can.stands

pub returns-in-Ok-clause-can : goal.returns-in-Ok-clause-can
returns-in-Ok-clause-can g c =
    can_read_rested c.rest.result _ _ c.fill.new.lot c.rest.new.self c.fill.new.purse c.rest.new.purse c.in-Ok.ensures.can
    (enough_on _ _ c.args.lot.now c.fill.new.lot c.args.purse.now c.fill.new.purse c.fill.ensures.writes c.requires.enough)
    c.rest.ensures.preserves c.rest.ensures.rests c.rest.ensures.same

pub returns-in-Ok-clause-writes : goal.returns-in-Ok-clause-writes
returns-in-Ok-clause-writes g c =
    writes_join _ _ _ c.args.lot.now c.fill.new.lot c.rest.new.self c.args.purse.now c.fill.new.purse c.rest.new.purse c.fill.ensures.writes c.rest.ensures.preserves
