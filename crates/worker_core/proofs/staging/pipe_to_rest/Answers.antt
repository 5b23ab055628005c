-- After a fault the lot that was written comes to rest.
use Rattle.worker_core.proofs.Resting.{cause_at_rest, keeps_at_rest}
use Rattle.worker_core.proofs.staging.pipe_to_rest.Goals as goal

pub returns-in-Err-clause-keeps : goal.returns-in-Err-clause-keeps
returns-in-Err-clause-keeps g c =
    keeps_at_rest g.D.Spill.told c.args.storage.now c.pipe.new.self c.rest-at_rest.new.self c.args.from c.args.to c.pipe.ensures.keeps c.rest-at_rest.ensures.keeps

pub returns-in-Err-clause-cause : goal.returns-in-Err-clause-cause
returns-in-Err-clause-cause g c = λ d.
    cause_at_rest g.D.Spill.told c.pipe.new.self c.rest-at_rest.new.self c.args.from c.args.to d _ _ _ _ _ c.requires.there.2 c.rest-at_rest.ensures.keeps c.rest-at_rest.ensures.cause (c.in-Err.ensures.cause d)
