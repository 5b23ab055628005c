use Rattle.lot_store.proofs.rest.end_run.Goals as goal

pub returns-clause-damaged : goal.returns-clause-damaged
returns-clause-damaged g c = λ block is. (c.discard-answer.new.page.bytes, c.discard-answer.ensures.damaged block is)
