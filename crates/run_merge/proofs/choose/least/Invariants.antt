use Rattle.run_merge.specs.Merging.{IsBestBelow}
use Rattle.run_merge.proofs.choose.least.Given as goal

abbrev pub invariant-loop-at : goal.invariant-loop-at
invariant-loop-at g l = IsBestBelow (g.O.RecordOrder.cmp l.order) g.R.RecordStream.shown l.sources l.at l.best
