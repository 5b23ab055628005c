use Rattle.std.specs.Prelude.{◌≡◌, ℕ, ◌+◌, ◌-◌, ◌%◌, ◌^◌, Bool, if◌then◌else◌, ◌==◌, List, [], ◌∷◌, ◌++◌, map, take, replicate, ℤ}
use Rattle.std.specs.Int.{to_be_bytes, cast_unsigned, w64}
use Rattle.std.specs.List.{flat_map}
use Rattle.flow_types.specs.declared.value.Value.{Value}
use Rattle.flow_types.specs.declared.value.Value.TheVariants as value
use Rattle.flow_types.specs.declared.order_item.OrderItem.{OrderItem}
use Rattle.flow_types.specs.Tuples.{Tuple, field}
use Rattle.flow_types.specs.Records.{bool_byte}
use Rattle.normal_key.specs.Comparisons.{steps}

-- Normal forms: bytes that compare, byte by byte, as the values do, whatever bytes stand behind them. Flink's
-- sorter compares such forms first too; these forms are this project's own.

-- the two's complement of a Long with its top bit flipped, so that the negative numbers stand first
abbrev pub flipped : ℤ → ℕ
flipped n = (cast_unsigned w64 n + 2 ^ 63) % 2 ^ 64

-- a byte of a text: a zero byte is followed by 255, so that it isn't taken for the text's end
abbrev pub escaped : ℕ → List ℕ
escaped byte = if byte == 0 then 0 ∷ 255 ∷ [] else byte ∷ []

-- a Long: 8 bytes, the high one first; a Bool: one byte, 0 or 1; a Str: its bytes and two zero bytes as its end
abbrev pub normal_form : Value → List ℕ
normal_form (value.Long n) = to_be_bytes w64 (flipped n)
normal_form (value.Bool b) = bool_byte b ∷ []
normal_form (value.Str s) = flat_map escaped s ++ 0 ∷ 0 ∷ []

-- a byte of a form, turned round where the greater values stand first
abbrev pub turned : Bool → ℕ → ℕ
turned down byte = if down then 255 - byte else byte

-- the normal form of a value, each byte turned round where the greater values stand first
abbrev pub directed_form : Bool → Value → List ℕ
directed_form down v = map (turned down) (normal_form v)

-- the forms of the fields that items compare, one after the other
abbrev pub items_form : List OrderItem → Tuple → List ℕ
items_form items t = flat_map (λ i. directed_form i.down (field i.field t)) items

-- the forms of all fields where the whole tuple is compared, and else none
abbrev pub whole_form : Bool → Tuple → List ℕ
whole_form whole t = if whole then flat_map normal_form t else []

-- the forms of all that is compared
abbrev pub key_form : List ℕ → List OrderItem → Bool → Tuple → List ℕ
key_form key items whole t = items_form (steps key items) t ++ whole_form whole t

-- the first 16 bytes
abbrev pub front : List ℕ → List ℕ
front bytes = take 16 bytes

-- bytes were written behind others, as far as the first 16 show it
abbrev pub Adds : List ℕ → List ℕ → List ℕ → Type 0
Adds old new written = front new ≡ front (old ++ written)

-- the first 16 bytes, filled with zero bytes where there are fewer
abbrev pub filled : List ℕ → List ℕ
filled bytes = front (bytes ++ replicate 16 0)

-- the prefix of a tuple: the first 16 bytes of the forms of all that is compared
abbrev pub key_prefix : List ℕ → List OrderItem → Bool → Tuple → List ℕ
key_prefix key items whole t = filled (key_form key items whole t)
