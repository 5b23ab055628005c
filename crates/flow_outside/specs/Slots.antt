use Rattle.std.specs.Prelude.{ℕ, List, Option}
use Rattle.std.specs.List.{count_by}
use Rattle.std.specs.Option.{is_some}

-- How many of the slots hold a reader.
abbrev pub living_in : {X : Type 0} → List (Option X) → ℕ
living_in slots = count_by is_some slots
