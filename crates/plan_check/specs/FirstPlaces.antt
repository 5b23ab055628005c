use Rattle.std.specs.Prelude.{◌≡◌, ℕ, if◌then◌else◌, List, position, Some, None}
use Rattle.std.specs.Option.{option_or}
use Rattle.std.specs.Str.{bytes_eq}
use Rattle.std.specs.declared.string.String.{String}
use Rattle.indexmap.specs.IndexMap.{IndexMap, get_by_text}
use Rattle.plan_check.specs.Places.{Place}

-- Where a plan's names stand first, as a map from names to positions has it.

module _ {A S : Type 0} where
  -- the map has for each name the position of its first place among these, and nothing for a name that has no place
  abbrev pub ShowsFirst : IndexMap (String A) ℕ S → List Place → Type 0
  ShowsFirst first ps = (name : List ℕ) → get_by_text first name ≡ position (λ (p : Place). bytes_eq p.name name) ps

  -- Every name has the position that it had; this one, where it had none, has the new position.
  abbrev pub NotesFirst : IndexMap (String A) ℕ S → List ℕ → ℕ → IndexMap (String A) ℕ S → Type 0
  NotesFirst old name at new =
      (other : List ℕ) → get_by_text new other ≡ option_or (get_by_text old other) (if bytes_eq name other then Some at else None)
