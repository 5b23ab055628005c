use Rattle.std.proofs.Common.{◌≡◌, take}
use Rattle.flow_outside.specs.Slots.{living_in}
use Rattle.flow_outside.proofs.slots.free_number.Given as goal

-- Each number below this one is that of a living reader.
abbrev pub invariant-loop-number : goal.invariant-loop-number
invariant-loop-number g l = living_in (take l.number l.slots.items) ≡ l.number
