use Rattle.std.proofs.Common.{◌≡◌, drop}
use Rattle.run_merge.specs.Merging.{number_of_given}
use Rattle.run_merge.proofs.choose.block_of_given.Given as goal

abbrev pub invariant-loop-place : goal.invariant-loop-place
invariant-loop-place g l = number_of_given g.R.RecordStream.block_read l.sources ≡ number_of_given g.R.RecordStream.block_read (drop l.place l.sources)
