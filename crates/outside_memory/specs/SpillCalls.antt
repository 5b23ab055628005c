use Rattle.std.specs.Prelude.{◌≡◌, ◌≢◌, ℕ, ◌==◌, ◌&&◌, Bool, true, false, IsTrue, List}
use Rattle.std.specs.List.{list_any}
use Rattle.outside_memory.specs.Calls.{next_call}
use Rattle.outside_memory.specs.declared.spill_calls.SpillCall.{SpillCall}
use Rattle.outside_memory.specs.declared.spill_calls.SpillCall.TheVariants.{Fresh, Put, Get}
use Rattle.outside_memory.specs.declared.spill_calls.SpillCalls.{SpillCalls}

-- Both are calls of one kind.
abbrev pub is_same_kind : SpillCall → SpillCall → Bool
is_same_kind Fresh Fresh = true
is_same_kind Fresh Put = false
is_same_kind Fresh Get = false
is_same_kind Put Fresh = false
is_same_kind Put Put = true
is_same_kind Put Get = false
is_same_kind Get Fresh = false
is_same_kind Get Put = false
is_same_kind Get Get = true

-- How many calls of this kind were made.
abbrev pub made_of : SpillCalls → SpillCall → ℕ
made_of calls Fresh = calls.fresh
made_of calls Put = calls.puts
made_of calls Get = calls.gets

-- The call of this kind and number is one of those that fail. Each kind is counted from 1.
abbrev pub is_listed_spill : List (SpillCall × ℕ) → SpillCall → ℕ → Bool
is_listed_spill failing call number = list_any (λ listed. is_same_kind listed.0 call && (listed.1 == number)) failing

-- The next call of this kind is one of those that fail.
abbrev pub NextSpillFails : SpillCalls → SpillCall → Type 0
NextSpillFails calls call = IsTrue (is_listed_spill calls.failing.items call (next_call (made_of calls call)))

-- One more call of this kind was made, and none of another.
pub record HasCalledSpill (old new : SpillCalls) (call : SpillCall) : Type 0 where
  pub one_more : made_of new call ≡ next_call (made_of old call)
  pub others : (other : SpillCall) → other ≢ call → made_of new other ≡ made_of old other
  pub listed : new.failing ≡ old.failing
