use Rattle.std.proofs.Common.{length}
use Rattle.worked_merges.proofs.tests.end.Given as goal

abbrev pub decreases-streams : goal.decreases-streams
decreases-streams l = length l.streams.sources
