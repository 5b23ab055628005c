use Rattle.std.proofs.Common.{◌≡◌, take}
use Rattle.flow_types.specs.Folds.{greatest_of}
use Rattle.plain_ops.proofs.folds.greatest_of.Given as goal

abbrev pub invariant-loop-row : goal.invariant-loop-row
invariant-loop-row l = l.best ≡ greatest_of l.number (take l.row-index l.rows)
