use Rattle.lot_store.proofs.StepLemmas.{keeps_told}
use Rattle.lot_store.proofs.FullLemmas.{full_then}
use Rattle.lot_store.proofs.stored.StoredPages.append_on.Goals as goal

pub returns-in-Ok-clause-keeps : goal.returns-in-Ok-clause-keeps
returns-in-Ok-clause-keeps g c =
    keeps_told _ _ _ c.args.self.now c.write.new.self c.write_span.new.self c.args.purse.now.pages c.write.new.purse.pages c.write_span.new.purse.pages c.write.ensures.keeps c.write_span.ensures.keeps

pub returns-in-Ok-clause-full : goal.returns-in-Ok-clause-full
returns-in-Ok-clause-full g c =
    full_then c.write_span.result _ _ _ c.args.self.now c.write.new.self c.write_span.new.self c.args.purse.now.pages c.write.new.purse.pages c.in-Ok.ensures.full c.write.ensures.keeps c.write_span.ensures.full
