use Rattle.std.proofs.Common.{◌≡◌, ◌++◌, take}
use Rattle.flow_model.specs.Rows.{folds_of}
use Rattle.plain_ops.proofs.folds.push_folds.Given as goal

abbrev pub invariant-loop-agg : goal.invariant-loop-agg
invariant-loop-agg l = l.values.items ≡ l.initial.values.items ++ folds_of (take l.agg-index l.aggs) l.rows
