use Rattle.std.proofs.Common.{◌≡◌, ◌++◌, take, map}
use Rattle.flow_model.specs.Rows.{folds_of, with_key}
use Rattle.plain_ops.proofs.groups.group_rows.Given as goal

abbrev pub invariant-loop-one : goal.invariant-loop-one
invariant-loop-one l = l.groups.items ≡ map (λ k. k ++ folds_of l.aggs (with_key l.key k l.rows)) (take l.one-index l.one-items)
