use Rattle.std.specs.Prelude.{ℕ, Bool, true, false, ◌&&◌, nat_le, List, [], length, ℤ, pos}
use Rattle.std.specs.Int.{int_wrap, w64}
use Rattle.std.specs.Str.{is_utf8}
use Rattle.std.specs.Cmp.Lexicographic.{slice_cmp}
use Rattle.std.specs.Ordering.{nat_cmp, int_cmp, bool_cmp, int_eq, is_eq}
use Rattle.std.specs.declared.cmp.Ordering.{Ordering}
use Rattle.std.specs.declared.cmp.Ordering.TheVariants.{Less, Greater}
use Rattle.flow_types.specs.Limits.{text_limit}
use Rattle.flow_types.specs.declared.value.Value.{Value}
use Rattle.flow_types.specs.declared.value.Value.TheVariants as value

-- A value is a Long, a Bool or a Str, which is its bytes.

-- The order of values: Longs by number (Java's long), false before true, Strs by their bytes with a
-- proper prefix first (our own). Two kinds are never compared by a plan; so that the order is total,
-- a Long stands before a Bool and a Bool before a Str.
abbrev pub value_cmp : Value → Value → Ordering
value_cmp (value.Long a) (value.Long b) = int_cmp a b
value_cmp (value.Long a) (value.Bool b) = Less
value_cmp (value.Long a) (value.Str b) = Less
value_cmp (value.Bool a) (value.Long b) = Greater
value_cmp (value.Bool a) (value.Bool b) = bool_cmp a b
value_cmp (value.Bool a) (value.Str b) = Less
value_cmp (value.Str a) (value.Long b) = Greater
value_cmp (value.Str a) (value.Bool b) = Greater
value_cmp (value.Str a) (value.Str b) = slice_cmp nat_cmp a b

-- two values are the same
abbrev pub value_eq : Value → Value → Bool
value_eq a b = is_eq (value_cmp a b)

-- the number of a Long; 0 of another kind
abbrev pub long_of : Value → ℤ
long_of (value.Long n) = n
long_of (value.Bool b) = pos 0
long_of (value.Str s) = pos 0

-- the truth of a Bool; false of another kind
abbrev pub flag_of : Value → Bool
flag_of (value.Long n) = false
flag_of (value.Bool b) = b
flag_of (value.Str s) = false

-- the bytes of a Str; none of another kind
abbrev pub bytes_of : Value → List ℕ
bytes_of (value.Long n) = []
bytes_of (value.Bool b) = []
bytes_of (value.Str s) = s

-- a number from -2^63 to 2^63 - 1: one that 64 bits hold in two's complement
abbrev pub is_long : ℤ → Bool
is_long n = int_eq (int_wrap w64 n) n

-- bytes of UTF-8, at most 16,382 of them
abbrev pub is_text : List ℕ → Bool
is_text s = nat_le (length s) text_limit && is_utf8 s

-- a value that a field can hold: a number is a Long's, and bytes are a Str's
abbrev pub is_value : Value → Bool
is_value (value.Long n) = is_long n
is_value (value.Bool b) = true
is_value (value.Str s) = is_text s
