use Rattle.std.proofs.Common.{◌≡◌, None}
use Rattle.plain_full.specs.Demands.{demand_at}
use Rattle.plain_full.proofs.FindLemmas.{first_below}
use Rattle.plain_full.proofs.states.first_of_state.Given as goal

abbrev pub invariant-loop-worker : goal.invariant-loop-worker
invariant-loop-worker l = first_below (demand_at l.shares.workers l.shares.have l.number l.key l.step l.entries) l.worker ≡ None
