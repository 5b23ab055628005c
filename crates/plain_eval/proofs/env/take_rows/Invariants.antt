use Rattle.std.proofs.Common.{◌≡◌, take}
use Rattle.std.specs.Vec.{vec_len}
use Rattle.flow_model.specs.Algebra.{rows_at}
use Rattle.plain_eval.proofs.EnvLemmas.{rows_or}
use Rattle.plain_eval.proofs.env.take_rows.Given as goal

abbrev pub invariant-loop-made : goal.invariant-loop-made
invariant-loop-made l = record {
  same : rows_at l.fn.made.items l.number ≡ rows_or l.made.items l.number l.found.items;
  rest : take l.kept l.made.items ≡ take l.kept l.fn.made.items;
}

abbrev pub decreases-loop-made : goal.decreases-loop-made
decreases-loop-made l = vec_len l.made
