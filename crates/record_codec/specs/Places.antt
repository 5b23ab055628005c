use Rattle.std.specs.Prelude.{ℕ, ◌+◌, List, [], ◌∷◌, take, drop, slice_index_or}
use Rattle.std.specs.Int.{to_be_bytes, from_be_bytes, cast_unsigned, w16, w64}
use Rattle.flow_types.specs.declared.value.Value.{Value}
use Rattle.flow_types.specs.declared.value.Value.TheVariants as value
use Rattle.flow_types.specs.declared.field_type.FieldType.{FieldType}
use Rattle.flow_types.specs.declared.field_type.FieldType.TheVariants as type
use Rattle.flow_types.specs.Types.{Fields}
use Rattle.flow_types.specs.Records.{bool_byte, taken}
use Rattle.record_codec.specs.declared.place.Place.{Place}

-- Where the fields of a record lie is this project's own.

-- how many bytes the first fields take, where the bytes begin with fields of these types
abbrev pub start_of : Fields → List ℕ → ℕ
start_of [] bytes = 0
start_of (f ∷ fs) bytes = taken f bytes + start_of fs (drop (taken f bytes) bytes)

-- where the content of a field of this type lies that begins at a place: that of a text behind its length
abbrev pub place_in : FieldType → ℕ → List ℕ → Place
place_in type.Long start bytes = record { start = start; len = 8 }
place_in type.Bool start bytes = record { start = start; len = 1 }
place_in (type.Str bound) start bytes = record { start = start + 2; len = from_be_bytes w16 (take 2 (drop start bytes)) }

-- where the content of field i lies, by its number from 0: it begins behind the fields before it
abbrev pub place_of : Fields → List ℕ → ℕ → Place
place_of fields bytes i = place_in (slice_index_or fields i type.Long) (start_of (take i fields) bytes) bytes

-- the bytes of a value: 8 of a Long, one of a Bool, and those of a Str without its length
abbrev pub content : Value → List ℕ
content (value.Long n) = to_be_bytes w64 (cast_unsigned w64 n)
content (value.Bool b) = bool_byte b ∷ []
content (value.Str s) = s
