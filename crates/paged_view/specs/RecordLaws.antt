-- Records read are records appended.
use Rattle.std.specs.Prelude.{◌≡◌, ℕ, ◌+◌, ◌^◌, ◌<◌, ◌≤◌, ◌↔◌, List, ◌++◌, length}
use Rattle.flow_types.specs.Records.{framed}
use Rattle.paged_view.specs.Reading.{HasRecord, first_record, after_first}

-- What a reader makes of the bytes that it was given so far, where they begin with a record's framed bytes: the record
-- is whole exactly where all of these were given, and then it is read and the rest is left.
pub record ReadsFirst (given row : List ℕ) : Type 0 where
  pub whole : HasRecord given ↔ (4 + length row ≤ length given)
  pub first : HasRecord given → first_record given ≡ row
  pub rest : HasRecord given → framed row ++ after_first given ≡ given

-- The law: bytes given so far and those given later are together a framed record and what stands behind it. The 4
-- bytes of a length hold numbers below 2^32.
abbrev pub ReadsAsAppended : Type 0
ReadsAsAppended = (given later row behind : List ℕ) → length row < 2 ^ 32 → given ++ later ≡ framed row ++ behind → ReadsFirst given row
