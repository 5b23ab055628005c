use Rattle.worked_lots.proofs.WorkedLemmas.{reads_join}
use Rattle.worked_lots.proofs.lots.read_twice.Goals as goal

pub returns-in-Ok-read_again : goal.returns-in-Ok-read_again
returns-in-Ok-read_again g c =
    reads_join _ _ _ c.args.lot.now c.read_again.new.lot c.read_again-2.new.lot c.args.purse.now c.read_again.new.purse c.read_again-2.new.purse c.read_again.ensures.reads c.read_again-2.ensures.reads

pub returns-in-Err-read_again : goal.returns-in-Err-read_again
returns-in-Err-read_again g c =
    reads_join _ _ _ c.args.lot.now c.read_again.new.lot c.read_again-2.new.lot c.args.purse.now c.read_again.new.purse c.read_again-2.new.purse c.read_again.ensures.reads c.read_again-2.ensures.reads
