-- One lane of the exchange, from a poster p to a receiver c.
use Rattle.std.specs.Prelude.{ℕ, List, [], ◌∷◌, ◌++◌, Option, Some, None, is_none, option_map, if◌then◌else◌}

-- A page, as the list of its bytes.
abbrev pub Bytes : Type 0
Bytes = List ℕ

-- The pages that p has put so far and those that c has got so far, both in order, and what is in the mailbox.
pub record Lane : Type 0 where
  pub sent : List Bytes
  pub received : List Bytes
  pub mailbox : Option Bytes

-- Nothing was put and nothing was got.
abbrev pub idle : Lane
idle = record { sent = []; received = []; mailbox = None }

-- Put, where the mailbox is empty: the page comes to the end of what was sent, and into the mailbox.
-- None where it is full.
abbrev pub after_put : Bytes → Lane → Option Lane
after_put page lane =
    if is_none lane.mailbox
    then Some (record { sent = lane.sent ++ page ∷ []; received = lane.received; mailbox = Some page })
    else None

-- Got, where the mailbox is full: its page comes to the end of what was received, and leaves the mailbox.
-- None where it is empty.
abbrev pub after_got : Lane → Option Lane
after_got lane =
    option_map (λ page. record { sent = lane.sent; received = lane.received ++ page ∷ []; mailbox = None }) lane.mailbox
