use Rattle.std.proofs.Common.{◌≡◌, take}
use Rattle.flow_types.specs.Folds.{least_of}
use Rattle.plain_ops.proofs.folds.least_of.Given as goal

abbrev pub invariant-loop-row : goal.invariant-loop-row
invariant-loop-row l = l.best ≡ least_of l.number (take l.row-index l.rows)
