use Rattle.std.proofs.Common.{◌≡◌, vec_len}
use Rattle.worked_rows.proofs.job.empty_disks.Given as goal

abbrev pub invariant-loop-count : goal.invariant-loop-count
invariant-loop-count l = vec_len l.disks ≡ l.count
