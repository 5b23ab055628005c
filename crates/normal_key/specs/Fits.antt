use Rattle.std.specs.Prelude.{ℕ, Bool, ◌&&◌, List}
use Rattle.std.specs.List.{list_all}
use Rattle.std.specs.Str.{bytes_eq}
use Rattle.flow_types.specs.Values.{is_value}
use Rattle.flow_types.specs.Types.{Fields, fits}
use Rattle.flow_types.specs.Tuples.{Tuple}
use Rattle.flow_types.specs.Records.{form, tuple_of}

-- a tuple fits the fields, each value is one that a field can hold, and the bytes are the tuple's record
abbrev pub is_record_of : Fields → Tuple → List ℕ → Bool
is_record_of fields t bytes = fits fields t && list_all is_value t && bytes_eq bytes (form t)

-- bytes are the record of a tuple of the fields, which is then the one that they are read as
abbrev pub is_record : Fields → List ℕ → Bool
is_record fields bytes = is_record_of fields (tuple_of fields bytes) bytes
