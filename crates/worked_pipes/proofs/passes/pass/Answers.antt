use Rattle.std.proofs.Common.{arith}
use Rattle.worked_pipes.proofs.PipeLemmas.{if_untold, read_rests, two_held}
use Rattle.worked_pipes.proofs.passes.pass.Goals as goal

pub pipe-requires-clause-may : goal.pipe-requires-clause-may
pipe-requires-clause-may g c = record {
  supply = c.requires.supply;
  rests = c.requires.rests;
  room = omega (arith, c.requires.room, two_held c.args.input.now c.args.out.now);
}

pub pipe-requires-clause-holds : goal.pipe-requires-clause-holds
pipe-requires-clause-holds g c = if_untold _ _ c.requires.untold

pub returns-clause-read : goal.returns-clause-read
returns-clause-read g c = read_rests c.pipe.result c.pipe.new.input c.pipe.new.out c.pipe.ensures.rests

pub returns-clause-written : goal.returns-clause-written
returns-clause-written g c = c.pipe.ensures.rests.written
