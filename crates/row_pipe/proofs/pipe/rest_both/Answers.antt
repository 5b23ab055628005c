-- The lot that was read comes to rest, and then the one that was written.
use Rattle.row_pipe.proofs.Passing.{passes_read, ready_first, ready_on, ready_second}
use Rattle.row_pipe.proofs.Resting.{passes_rested}
use Rattle.row_pipe.proofs.pipe.rest_both.Goals as goal

pub rest-requires : goal.rest-requires
rest-requires g c = ready_first _ c.args.purse.now c.args.input.now c.args.out.now c.requires.ready

pub rest-requires-in-Ok : goal.rest-requires-in-Ok
rest-requires-in-Ok g c =
    ready_second _ c.rest.new.purse c.rest.new.self c.args.out.now (ready_on _ _ c.args.input.now c.rest.new.self c.args.out.now c.args.out.now c.args.purse.now c.rest.new.purse
    (passes_read _ _ c.args.input.now c.rest.new.self c.args.out.now c.args.purse.now c.rest.new.purse (c.rest.ensures.nothing c.requires.fits).0) c.requires.ready)

pub returns-in-Ok-clause-preserves : goal.returns-in-Ok-clause-preserves
returns-in-Ok-clause-preserves g c =
    passes_rested _ _ _ c.args.input.now c.rest.new.self c.args.out.now c.rest-in-Ok.new.self c.args.purse.now c.rest.new.purse c.rest-in-Ok.new.purse (c.rest.ensures.nothing c.requires.fits).0 c.rest-in-Ok.ensures.preserves

pub returns-in-Err-clause-preserves : goal.returns-in-Err-clause-preserves
returns-in-Err-clause-preserves g c =
    passes_read _ _ c.args.input.now c.rest.new.self c.args.out.now c.args.purse.now c.rest.new.purse (c.rest.ensures.nothing c.requires.fits).0
