use Rattle.std.specs.Prelude.{ℕ, ◌&&◌, nat_le, ℤ, pos, negsuc, List, Option, None}
use Rattle.serde_json.specs.Data.{Data}
use Rattle.flow_model.specs.Rules.{are_distinct}
use Rattle.plan_json.specs.declared.reading.Flaw.TheVariants as flaw
use Rattle.plan_json.specs.Json.{◌>>=◌, only_if, collected, list_in, long}
use Rattle.plan_json.specs.Reading.{Reading, or_flaw}

-- Members that are numbers. A JSON number counts only where `serde_json` gives it as a Long.

-- a number from `least` to `most`
abbrev pub within : ℕ → ℕ → ℤ → Option ℕ
within least most (pos n) = only_if (nat_le least n && nat_le n most) n
within least most (negsuc n) = None

-- a whole number from `least` to `most`
abbrev pub number_of : ℕ → ℕ → Data → Option ℕ
number_of least most d = long d >>= within least most

-- a member that is a number from 1 to 1,000,000
abbrev pub count_in : Option Data → Reading ℕ
count_in member = or_flaw flaw.Node (member >>= number_of 1 1000000)

-- a field's number, from 0 to 31
abbrev pub field_number : Data → Option ℕ
field_number d = number_of 0 31 d

-- a member that is a key: from `least` to 8 different field numbers
abbrev pub key_in : ℕ → Option Data → Reading (List ℕ)
key_in least member =
    or_flaw flaw.Node (member >>= list_in least 8 >>= λ items. collected field_number items >>= λ numbers. only_if (are_distinct numbers) numbers)
