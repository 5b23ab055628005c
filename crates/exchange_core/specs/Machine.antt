-- The exchange machine: what the events Put and Got do to the lanes of all ordered pairs of workers. It is
-- this project's own.
use Rattle.std.specs.Prelude.{ℕ, ◌+◌, ◌<◌, ◌≤◌, ◌≢◌, ◌≡◌, List, [], ◌∷◌, length, replicate, Option, Some, None, option_map, Result, Ok, Err, slice_index_or, slice_set}
use Rattle.exchange_core.specs.Lane.{Lane, idle, after_put, after_got}
use Rattle.exchange_core.specs.declared.event.Event.{Event}
use Rattle.exchange_core.specs.declared.event.Event.TheVariants.{Put, Got}

-- For each poster p, in the order of their numbers, its lanes to each receiver c.
-- The lane of a worker to itself is never used.
abbrev pub Machine : Type 0
Machine = List (List Lane)

-- How many workers there are.
abbrev pub workers : Machine → ℕ
workers machine = length machine

-- Of one poster's lanes the one to c, or an idle one where there is none.
abbrev pub lane_to : List Lane → ℕ → Lane
lane_to lanes c = slice_index_or lanes c idle

-- The lane from p to c.
abbrev pub lane_of : Machine → ℕ → ℕ → Lane
lane_of machine p c = lane_to (slice_index_or machine p []) c

-- The machine with this lane from p to c. All other lanes stay.
abbrev pub with_lane : Machine → ℕ → ℕ → Lane → Machine
with_lane machine p c lane = slice_set machine p (slice_set (slice_index_or machine p []) c lane)

-- Each worker has a lane to each worker.
abbrev pub IsSquare : Machine → Type 0
IsSquare machine = (p : ℕ) → p < workers machine → length (slice_index_or machine p []) ≡ workers machine

-- p and c are two different workers among so many.
pub record IsPair (count p c : ℕ) : Type 0 where
  pub differ : p ≢ c
  pub poster : p < count
  pub receiver : c < count

-- The event is one of two such workers.
abbrev pub IsAmong : ℕ → Event → Type 0
IsAmong count (Put p c page) = IsPair count p c
IsAmong count (Got p c) = IsPair count p c

-- How many workers an exchange may have.
pub record IsWorkerCount (count : ℕ) : Type 0 where
  pub several : 2 ≤ count
  pub few : count ≤ 32

-- The pair of an event.
abbrev pub pair_of : Event → ℕ × ℕ
pair_of (Put p c page) = (p, c)
pair_of (Got p c) = (p, c)

-- All lanes are idle.
abbrev pub start_of : ℕ → Machine
start_of count = replicate count (replicate count idle)

-- One event changes the lane of its pair, and no other. There is no next machine where that lane's mailbox
-- isn't ready.
abbrev pub step_of : Machine → Event → Option Machine
step_of machine (Put p c page) = option_map (with_lane machine p c) (after_put page (lane_of machine p c))
step_of machine (Got p c) = option_map (with_lane machine p c) (after_got (lane_of machine p c))

-- Applies the events one after another. `place` is the place of the first of them. It gives the machine
-- after all of them, or the place of the first event that has no next machine.
abbrev pub run_from : Machine → ℕ → List Event → Result Machine ℕ
run_from machine place [] = Ok machine
run_from machine place (event ∷ events) =
    elim (step_of machine event) [ None ↦ Err place | Some next ↦ run_from next (place + 1) events ]

-- A run: the events from idle lanes, with places from 0.
abbrev pub run_of : ℕ → List Event → Result Machine ℕ
run_of count events = run_from (start_of count) 0 events
