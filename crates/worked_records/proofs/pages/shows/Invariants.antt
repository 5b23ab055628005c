use Rattle.std.proofs.Common.{◌≤◌, ◌-◌, length}
use Rattle.worked_records.proofs.pages.shows.Given as goal

abbrev pub invariant-pieces : goal.invariant-pieces
invariant-pieces g l = l.from ≤ length l.bytes

abbrev pub decreases-pieces : goal.decreases-pieces
decreases-pieces g l = length l.bytes - l.from
