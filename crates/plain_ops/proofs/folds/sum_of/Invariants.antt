use Rattle.std.proofs.Common.{◌≡◌, take}
use Rattle.flow_types.specs.Folds.{sum_of}
use Rattle.flow_types.specs.Expressions.{wrap}
use Rattle.plain_ops.proofs.folds.sum_of.Given as goal

abbrev pub invariant-loop-row : goal.invariant-loop-row
invariant-loop-row l = l.total ≡ wrap (sum_of l.number (take l.row-index l.rows))
