use Rattle.std.specs.Prelude.{ℕ, nat_le, Bool, ◌&&◌, if◌then◌else◌, List, length, Option, Some, None}
use Rattle.std.specs.List.{list_all}
use Rattle.std.specs.Char.{is_ascii_digit}
use Rattle.std.specs.Str.Parse.{digits_value}

-- Numbers in decimal digits.

-- at least one byte, and each is a decimal digit
abbrev pub is_numeral : List ℕ → Bool
is_numeral text = nat_le 1 (length text) && list_all is_ascii_digit text

-- the number that a numeral writes, where it is at most `most`; leading zeros are allowed
abbrev pub number_up_to : ℕ → List ℕ → Option ℕ
number_up_to most text = if is_numeral text && nat_le (digits_value 10 text) most then Some (digits_value 10 text) else None
