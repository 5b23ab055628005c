use Rattle.std.proofs.Common.{◌≡◌, drop}
use Rattle.flow_model.specs.Algebra.{rows_at}
use Rattle.plain_eval.proofs.env.rows_at.Given as goal

abbrev pub invariant-loop-one : goal.invariant-loop-one
invariant-loop-one l = rows_at l.made l.number ≡ rows_at (drop l.one-index l.made) l.number
