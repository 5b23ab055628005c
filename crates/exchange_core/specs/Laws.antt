-- What holds of the exchange machine over every list of events.
use Rattle.std.specs.Prelude.{ℕ, ◌≡◌, ◌+◌, ◌≤◌, List, [], ◌∷◌, ◌++◌, length, take, Ok, Some, None, IsSome, IsNone, MatchOption, slice_get}
use Rattle.exchange_core.specs.Lane.{Lane, Bytes}
use Rattle.exchange_core.specs.Machine.{Machine, lane_of, step_of, run_of}
use Rattle.exchange_core.specs.declared.event.Event.{Event}
use Rattle.exchange_core.specs.declared.event.Event.TheVariants.{Put, Got}

-- The lane's receiver keeps up with its poster.
pub record KeepsUp (lane : Lane) : Type 0 where
  -- what was received is a prefix of what was sent
  pub prefix : (rest : List Bytes) × (lane.received ++ rest ≡ lane.sent)
  -- at most one page behind
  pub behind : length lane.sent ≤ length lane.received + 1
  -- at an empty mailbox both are equal, and a full one holds the page between
  pub between : MatchOption lane.mailbox (lane.sent ≡ lane.received) (λ page. lane.sent ≡ lane.received ++ page ∷ [])

-- The receiver of every lane does.
abbrev pub AllKeepUp : Machine → Type 0
AllKeepUp machine = (p c : ℕ) → KeepsUp (lane_of machine p c)

-- The mailbox isn't ready for the event: it is full for a Put, or empty for a Got.
abbrev pub IsNotReady : Machine → Event → Type 0
IsNotReady machine (Put p c page) = IsSome (lane_of machine p c).mailbox
IsNotReady machine (Got p c) = IsNone (lane_of machine p c).mailbox

-- The events before this place come to a machine, and the event at this place has no next one there.
pub record IsFirstRefusal (count : ℕ) (events : List Event) (place : ℕ) : Type 0 where
  pub reached : Machine
  pub before : run_of count (take place events) ≡ Ok reached
  pub event : Event
  pub stands : slice_get events place ≡ Some event
  pub refused : step_of reached event ≡ None
