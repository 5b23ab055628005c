use Rattle.std.specs.Prelude.{ℕ, List, Option, Some, None}
use Rattle.serde_json.specs.Data.{Data}
use Rattle.serde_json.specs.Find.{as_str}
use Rattle.flow_types.specs.Names.{is_name}
use Rattle.plan_json.specs.declared.reading.Flaw.TheVariants as flaw
use Rattle.plan_json.specs.Json.{◌>>=◌, only_if, collected, list_in}
use Rattle.plan_json.specs.Reading.{Reading, ◌<$>◌, or_flaw, formed, or_absent}

-- Members that are names.

-- a text of a name's form
abbrev pub name_of : Data → Option (List ℕ)
name_of d = as_str d >>= λ text. only_if (is_name text) text

-- a member that is a name
abbrev pub name_in : Option Data → Reading (List ℕ)
name_in member = formed member (λ d. or_flaw flaw.Name (name_of d))

-- a member that is a name where it isn't absent
abbrev pub optional_name_in : Option Data → Reading (Option (List ℕ))
optional_name_in member = or_absent None (λ d. Some <$> or_flaw flaw.Name (name_of d)) member

-- a member that is a list of 2 to 8 names
abbrev pub names_in : Option Data → Reading (List (List ℕ))
names_in member = formed (member >>= list_in 2 8) (λ items. or_flaw flaw.Name (collected name_of items))
