use Rattle.std.proofs.Common.{length}
use Rattle.spool.proofs.SpillLemmas.{begun_told}
use Rattle.spool.proofs.spill.begin.Goals as goal

pub returns-in-Ok-clause-longer : goal.returns-in-Ok-clause-longer
returns-in-Ok-clause-longer g c =
    begun_told _ _ _ (length c.args.page.now.bytes) c.in_ok-writer.writer c.push.new.self c.push.new.page.bytes
    c.in_ok-writer.ensures.none.1 c.in_ok-writer.ensures.none.0 c.in-Ok.ensures.counted
    c.in_ok-writer.ensures.given c.in_ok-writer.ensures.written c.in-Ok.ensures.appended c.in-Ok.ensures.pushed
