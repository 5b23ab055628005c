use Rattle.std.specs.Prelude.{◌≡◌, ℕ, ◌+◌, ◌-◌, ◌^◌, ◌≤◌, min, Option, None, Result, OnErr, IsErrOf}
use Rattle.flow_outside.specs.declared.failure.StreamFault.{StreamFault}
use Rattle.flow_outside.specs.declared.failure.StreamFault.TheVariants as fault
use Rattle.flow_outside.specs.Blocks.{Blocks}

-- A count of faults went up from `before` to `now`. A count that stands at its type's end, 2^64 - 1,
-- counts as risen. The rule is this project's own.
abbrev pub Rose : ℕ → ℕ → Type 0
Rose before now = min (before + 1) (2 ^ 64 - 1) ≤ now

-- The count never falls, and the answer is an error only where the count rose.
pub record HasCause {T E : Type 0} (before now : ℕ) (answer : Result T E) : Type 0 where
  pub later : before ≤ now
  pub rises : OnErr answer (Rose before now)

-- Why a call that reads or writes spilled records ended early: the disk's count of faults never falls, `Spill` comes
-- only where it rose in this call, and `Damaged` only over a disk that doesn't tell.
pub record HasStreamCause {T : Type 0} (before now : ℕ) (told : Option Blocks) (answer : Result T StreamFault) : Type 0 where
  pub later : before ≤ now
  pub spill : IsErrOf answer fault.Spill → Rose before now
  pub damaged : (block : ℕ) → IsErrOf answer (fault.Damaged block) → told ≡ None
