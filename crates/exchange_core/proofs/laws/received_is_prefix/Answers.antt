use Rattle.exchange_core.proofs.MachineLemmas.{run_keeps, start_keeps, step_keeps}
use Rattle.exchange_core.proofs.laws.received_is_prefix.Goals as goal

pub returns : goal.returns
returns c = record { run = run_keeps; start = start_keeps; step = step_keeps }
