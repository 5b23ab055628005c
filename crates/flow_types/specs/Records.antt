use Rattle.std.specs.Prelude.{◌≡◌, ℕ, ◌+◌, Bool, true, false, not, ◌==◌, List, [], ◌∷◌, ◌++◌, length, take, drop, slice_index, IsTrue}
use Rattle.std.specs.List.{list_all, flat_map}
use Rattle.std.specs.Int.{to_be_bytes, from_be_bytes, cast_signed, cast_unsigned, w16, w32, w64}
use Rattle.flow_types.specs.declared.value.Value.{Value}
use Rattle.flow_types.specs.declared.value.Value.TheVariants as value
use Rattle.flow_types.specs.declared.field_type.FieldType.{FieldType}
use Rattle.flow_types.specs.declared.field_type.FieldType.TheVariants as type
use Rattle.flow_types.specs.Values.{is_value}
use Rattle.flow_types.specs.Types.{Fields, fits}
use Rattle.flow_types.specs.Tuples.{Tuple}

-- The bytes of a record are this project's own: the fields' bytes, one after the other.

-- 1 for true and 0 for false
abbrev pub bool_byte : Bool → ℕ
bool_byte true = 1
bool_byte false = 0

-- a Long: 8 bytes of two's complement, the high one first; a Bool: one byte, 0 or 1; a Str: its length
-- in 2 bytes, the high one first, and its bytes
abbrev pub value_form : Value → List ℕ
value_form (value.Long n) = to_be_bytes w64 (cast_unsigned w64 n)
value_form (value.Bool b) = bool_byte b ∷ []
value_form (value.Str s) = to_be_bytes w16 (length s) ++ s

-- the record of a tuple: its fields' bytes, one after the other
abbrev pub form : Tuple → List ℕ
form t = flat_map value_form t

-- the bytes of a tuple's record
abbrev pub size : Tuple → ℕ
size t = length (form t)

-- a record behind its length in 4 bytes, the high one first
abbrev pub framed : List ℕ → List ℕ
framed bytes = to_be_bytes w32 (length bytes) ++ bytes

-- records behind their lengths, one after the other
abbrev pub frames : List (List ℕ) → List ℕ
frames records = flat_map framed records

-- A tuple of a schema: it fits, and each value is one that a field can hold.
pub record IsTupleOf (fields : Fields) (t : Tuple) : Type 0 where
  pub fitting : IsTrue (fits fields t)
  pub values : IsTrue (list_all is_value t)

-- Bytes are the record of a tuple of a schema.
pub record IsRecordOf (fields : Fields) (t : Tuple) (bytes : List ℕ) : Type 0 where
  pub tuple : IsTupleOf fields t
  pub formed : bytes ≡ form t

-- how many of the bytes the first field takes, where they begin with a field of this type
abbrev pub taken : FieldType → List ℕ → ℕ
taken type.Long bytes = 8
taken type.Bool bytes = 1
taken (type.Str bound) bytes = 2 + from_be_bytes w16 (take 2 bytes)

-- the value of the first field, where the bytes begin with a field of this type
abbrev pub first_value : FieldType → List ℕ → Value
first_value type.Long bytes = value.Long (cast_signed w64 (from_be_bytes w64 (take 8 bytes)))
first_value type.Bool bytes = value.Bool (not (slice_index bytes 0 == 0))
first_value (type.Str bound) bytes = value.Str (take (from_be_bytes w16 (take 2 bytes)) (drop 2 bytes))

-- the tuple that bytes are read as: field by field from the left, and what stands behind is passed over
abbrev pub tuple_of : Fields → List ℕ → Tuple
tuple_of [] bytes = []
tuple_of (f ∷ fs) bytes = first_value f bytes ∷ tuple_of fs (drop (taken f bytes) bytes)

-- Bytes are the record of some tuple of a schema. They are then that of the tuple that they are read as,
-- and of no other.
abbrev pub IsRecord : Fields → List ℕ → Type 0
IsRecord fields bytes = IsRecordOf fields (tuple_of fields bytes) bytes

-- The law of records: whose record bytes are, that tuple they are read as. So two tuples of a schema with
-- one record are one tuple.
abbrev pub ReadsAsWritten : Type 0
ReadsAsWritten = (fields : Fields) (t : Tuple) (bytes : List ℕ) → IsRecordOf fields t bytes → tuple_of fields bytes ≡ t
