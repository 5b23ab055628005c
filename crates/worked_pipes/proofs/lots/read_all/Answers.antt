use Rattle.std.proofs.Common.{ap, ◌∙◌}
use Rattle.worked_lots.proofs.WorkedLemmas.{reads_join, ready_untold}
use Rattle.worked_pipes.proofs.lots.read_all.Goals as goal

pub rewind-begun-requires-clause-ready : goal.rewind-begun-requires-clause-ready
rewind-begun-requires-clause-ready g c =
    ready_untold _ c.args.lot.now c.args.purse.now c.requires.untold c.requires.room

pub read-requires-clause-untold : goal.read-requires-clause-untold
read-requires-clause-untold g c = ap g.D.Spill.told c.rewind-begun.ensures.disk ∙ c.requires.untold

pub returns : goal.returns
returns g c =
    reads_join _ _ _ c.args.lot.now c.rewind-begun.new.self c.read.new.lot c.args.purse.now c.rewind-begun.new.purse c.rewind-begun.new.purse c.rewind-begun.ensures.preserves (c.read.ensures.reads c.rewind-begun.new.purse)
