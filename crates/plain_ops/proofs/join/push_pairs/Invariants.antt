use Rattle.std.proofs.Common.{◌≡◌, ◌++◌, take, map}
use Rattle.flow_model.specs.Rows.{columns_of}
use Rattle.plain_ops.proofs.join.push_pairs.Given as goal

abbrev pub invariant-loop-row : goal.invariant-loop-row
invariant-loop-row l = l.rows.items ≡ l.initial.rows.items ++ map (λ r. columns_of l.columns (l.tuple ++ r)) (take l.row-index l.partners)
