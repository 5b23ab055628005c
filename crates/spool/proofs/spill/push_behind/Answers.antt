use Rattle.std.proofs.Common.{length}
use Rattle.spool.proofs.PushLemmas.{end_lives_told}
use Rattle.spool.proofs.SpillLemmas.{longer_told, unchanged_told}
use Rattle.spool.proofs.spill.push_behind.Goals as goal

pub push-requires-clause-live : goal.push-requires-clause-live
push-requires-clause-live g c = end_lives_told _ (length c.args.page.now.bytes) c.args.writer c.requires.stands

pub returns-in-Ok-clause-longer : goal.returns-in-Ok-clause-longer
returns-in-Ok-clause-longer g c =
    longer_told _ _ _ c.args.writer c.push.new.self c.push.new.page.bytes c.in-Ok.ensures.counted c.requires.stands c.in-Ok.ensures.appended c.in-Ok.ensures.pushed

pub returns-in-Err-clause-refused : goal.returns-in-Err-clause-refused
returns-in-Err-clause-refused g c =
    unchanged_told _ _ _ c.args.writer c.push.new.self c.requires.stands c.in-Err.ensures.refused.0 c.in-Err.ensures.refused.1 c.in-Err.ensures.kept
