use Rattle.std.proofs.Common.{ℕ, List, length, ap, arith}
use Rattle.spool.proofs.PushLemmas.{end_lives_told}
use Rattle.worked_runs.proofs.pages.write_run.Goals as goal

pub push-requires-clause-within : goal.push-requires-clause-within
push-requires-clause-within g c =
    omega (arith, c.mark.ensures.used, c.body_of-body.ensures.some, ap (λ (xs : List ℕ). length xs) c.body_of-body.ensures.value)

pub push-requires-clause-live : goal.push-requires-clause-live
push-requires-clause-live g c =
    end_lives_told _ _ c.loop-number.writer c.loop-number.invariant.written
