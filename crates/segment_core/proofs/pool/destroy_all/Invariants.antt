use Rattle.std.proofs.Common.{vec_len}
use Rattle.segment_core.proofs.pool.destroy_all.Given as goal

abbrev pub decreases-loop-s : goal.decreases-loop-s
decreases-loop-s l = vec_len l.items
