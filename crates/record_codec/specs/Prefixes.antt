use Rattle.std.specs.Prelude.{◌≡◌, ℕ, ◌+◌, ◌≤◌, List, ◌++◌, length, drop, IsTrue}
use Rattle.flow_types.specs.declared.field_type.FieldType.{FieldType}
use Rattle.flow_types.specs.Values.{is_value}
use Rattle.flow_types.specs.Types.{fits_field}
use Rattle.flow_types.specs.Records.{value_form, first_value, taken}

-- Bytes begin with a value of a field of this type: the value that they are read as fits the field, a
-- field can hold it, and its form stands in front of the bytes behind it.
pub record BeginsWith (f : FieldType) (bytes : List ℕ) : Type 0 where
  pub fitting : IsTrue (fits_field f (first_value f bytes))
  pub value : IsTrue (is_value (first_value f bytes))
  pub formed : bytes ≡ value_form (first_value f bytes) ++ drop (taken f bytes) bytes

-- A value of a field of this type stands in the bytes from one place to another.
pub record StandsFrom (f : FieldType) (bytes : List ℕ) (start end : ℕ) : Type 0 where
  pub begins : BeginsWith f (drop start bytes)
  pub ends : end ≡ start + taken f (drop start bytes)
  pub inside : end ≤ length bytes
