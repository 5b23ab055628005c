use Rattle.std.proofs.Common.{◌≡◌, take, map}
use Rattle.plan_check.specs.Places.{number_of, is_seen_at}
use Rattle.plan_check.proofs.numbering.numbers_at.Given as goal

abbrev pub invariant-loop-name : goal.invariant-loop-name
invariant-loop-name l = l.numbers.items ≡ map (number_of l.names (is_seen_at l.number l.home)) (take l.name-index l.name-items)
