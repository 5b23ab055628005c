use Rattle.std.specs.Prelude.{◌≡◌, ℕ, ◌+◌, ◌-◌, ◌^◌, ◌==◌, Bool, IsTrue, List, min}
use Rattle.std.specs.List.{list_any}
use Rattle.outside_memory.specs.declared.calls.Calls.{Calls}

-- The number of the next call, counted from 1: the count of calls stands still at its type's end.
abbrev pub next_call : ℕ → ℕ
next_call made = min (made + 1) (2 ^ 64 - 1)

-- This call is one of those that fail.
abbrev pub is_listed : List ℕ → ℕ → Bool
is_listed failing call = list_any (λ number. number == call) failing

-- The next call is one of those that fail.
abbrev pub NextFails : Calls → Type 0
NextFails calls = IsTrue (is_listed calls.failing.items (next_call calls.made))

-- One more call was made.
abbrev pub HasCalled : (old new : Calls) → Type 0
HasCalled old new = (new.made ≡ next_call old.made) × (new.failing ≡ old.failing)
