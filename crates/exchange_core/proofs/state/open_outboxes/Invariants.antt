use Rattle.std.proofs.Common.{◌≡◌, replicate}
use Rattle.exchange_core.specs.Lane.{idle}
use Rattle.exchange_core.proofs.state.open_outboxes.Given as goal

abbrev pub invariant-loop : goal.invariant-loop
invariant-loop l = l.outboxes.items ≡ replicate l.counter (replicate l.count idle)
