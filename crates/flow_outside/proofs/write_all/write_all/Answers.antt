use Rattle.std.proofs.Common.{rules}
use Rattle.flow_outside.proofs.Told.{appends_piece}
use Rattle.flow_outside.proofs.write_all.write_all.Goals as goal

pub loop-at-preserved : goal.loop-at-preserved
loop-at-preserved g c = record {
  within = search rules;
  later = search rules;
  taken = appends_piece _ _ _ _ _ _ c.loop-at.invariant.taken c.in_ok-at.ensures.appended;
}
