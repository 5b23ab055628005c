use Rattle.std.proofs.Common.{take}
use Rattle.plan_check.specs.FirstPlaces.{ShowsFirst}
use Rattle.plan_check.proofs.names.first_places.Given as goal

abbrev pub invariant-loop-position : goal.invariant-loop-position
invariant-loop-position l = ShowsFirst l.first (take l.position l.places)
