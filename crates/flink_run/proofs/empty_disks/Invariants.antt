use Rattle.std.proofs.Common.{◌≡◌, vec_len}
use Rattle.flink_run.proofs.empty_disks.Given as goal

abbrev pub invariant-loop-count : goal.invariant-loop-count
invariant-loop-count l = vec_len l.disks ≡ l.count
