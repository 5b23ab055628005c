-- At the end nothing is left to run, so the state is the run's.
use Rattle.std.proofs.Common.{◌≡◌, Ok, arith}
use Rattle.std.proofs.lemmas.Grind.{common_steps}
use Rattle.exchange_core.specs.Machine.{run_of}
use Rattle.exchange_core.proofs.MachineLemmas.{run_keeps}
use Rattle.exchange_core.proofs.run.run.Goals as goal

pub returns-clause-keeps_up : goal.returns-clause-keeps_up
returns-clause-keeps_up c =
    let ended : run_of c.args.w c.args.events.items ≡ Ok c.loop-place.state = grind (arith, common_steps) in
    run_keeps c.args.w c.args.events.items c.loop-place.state ended

pub returns-clause-square : goal.returns-clause-square
returns-clause-square c = c.loop-place.invariant.square
