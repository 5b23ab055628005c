use Rattle.plain_full.proofs.FindLemmas.{worker_passed, worker_found}
use Rattle.plain_full.proofs.states.first_of_state.Goals as goal

pub loop-worker-preserved : goal.loop-worker-preserved
loop-worker-preserved c =
    let a = c.args in
    worker_passed a.shares.workers a.shares.have a.number a.key.now a.step a.entries.now c.loop-worker.worker c.in_ok-need.need c.loop-worker.invariant c.in_ok-need.ensures c.if-shares-need.false

pub returns-then-shares-need : goal.returns-then-shares-need
returns-then-shares-need c =
    let a = c.args in
    worker_found a.shares.workers a.shares.have a.number a.key.now a.step a.entries.now c.loop-worker.worker c.in_ok-need.need c.loop-worker-test.true c.loop-worker.invariant c.in_ok-need.ensures c.if-shares-need.true
