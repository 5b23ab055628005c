use Rattle.std.proofs.Common.{◌≡◌, ◌++◌, take, map}
use Rattle.flow_model.specs.Rows.{folds_of, with_key}
use Rattle.plain_ops.proofs.groups.cogroup_rows.Given as goal

abbrev pub invariant-loop-one : goal.invariant-loop-one
invariant-loop-one l = l.groups.items ≡ map (λ k. k ++ (folds_of l.left_aggs (with_key l.left_key k l.left) ++ folds_of l.right_aggs (with_key l.right_key k l.right))) (take l.one-index l.one-items)
