use Rattle.std.proofs.Common.{◌≡◌, replicate}
use Rattle.exchange_core.specs.Lane.{idle}
use Rattle.exchange_core.proofs.outbox.Outbox.open.Given as goal

abbrev pub invariant-loop : goal.invariant-loop
invariant-loop l = l.logs.items ≡ replicate l.counter idle
