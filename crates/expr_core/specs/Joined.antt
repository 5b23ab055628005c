use Rattle.std.specs.Prelude.{ℕ, List, ◌++◌, Option, Some, None}
use Rattle.flow_types.specs.Types.{Fields}
use Rattle.flow_types.specs.Tuples.{Tuple}
use Rattle.flow_types.specs.Records.{tuple_of}

-- Over what columns are evaluated: over one record, or over two that are joined. As in a join of Flink, the
-- left fields are followed by the right ones.

-- the fields of the left record, followed by those of the right one where there is one
abbrev pub joined_fields : Fields → Fields → Option (List ℕ) → Fields
joined_fields left right None = left
joined_fields left right (Some bytes) = left ++ right

-- the tuple of the left record, followed by that of the right one where there is one
abbrev pub joined_tuple : Fields → List ℕ → Fields → Option (List ℕ) → Tuple
joined_tuple left left_bytes right None = tuple_of left left_bytes
joined_tuple left left_bytes right (Some bytes) = tuple_of left left_bytes ++ tuple_of right bytes
