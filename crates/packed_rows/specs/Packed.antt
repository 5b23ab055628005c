use Rattle.std.specs.Prelude.{◌≡◌, ℕ, zero, suc, ◌+◌, ◌^◌, ◌<◌, Bool, List, [], ◌∷◌, length, take, drop, map, ℤ, All}
use Rattle.std.specs.Int.{from_be_bytes, w32}
use Rattle.std.specs.Ordering.{is_gt}
use Rattle.flow_types.specs.declared.value.Value.TheVariants as value
use Rattle.flow_types.specs.Values.{value_cmp}
use Rattle.flow_types.specs.Types.{Fields}
use Rattle.flow_types.specs.Tuples.{Tuple, field}
use Rattle.flow_types.specs.Records.{form, size, frames, tuple_of, IsTupleOf}

-- Rows that stand packed in bytes: their records behind their lengths, one after the other. The layout is this
-- project's own.

-- how many bytes the first record has, by the length before it
abbrev pub first_len : List ℕ → ℕ
first_len bytes = from_be_bytes w32 (take 4 bytes)

-- the first record, behind its length
abbrev pub first_record : List ℕ → List ℕ
first_record bytes = take (first_len bytes) (drop 4 bytes)

-- what stands behind the first record
abbrev pub behind_first : List ℕ → List ℕ
behind_first bytes = drop (4 + first_len bytes) bytes

-- the rows that the first n records are read as; fewer where the bytes end before
abbrev pub rows_up_to : ℕ → Fields → List ℕ → List Tuple
rows_up_to zero fields bytes = []
rows_up_to (suc n) fields [] = []
rows_up_to (suc n) fields (b ∷ bs) = tuple_of fields (first_record (b ∷ bs)) ∷ rows_up_to n fields (behind_first (b ∷ bs))

-- the rows that bytes are read as, record after record to their end; there are no more of them than bytes
abbrev pub rows_in : Fields → List ℕ → List Tuple
rows_in fields bytes = rows_up_to (length bytes) fields bytes

-- A row that can be packed: a tuple of the fields, whose record has a length that four bytes can write. Each tuple
-- of a schema is one, since its record has at most 16,384 bytes.
pub record IsRowOf (fields : Fields) (t : Tuple) : Type 0 where
  pub tuple : IsTupleOf fields t
  pub short : size t < 2 ^ 32

-- Bytes are these rows, packed.
pub record IsPackedOf (fields : Fields) (rows : List Tuple) (bytes : List ℕ) : Type 0 where
  pub rows_of : All (IsRowOf fields) rows
  pub formed : bytes ≡ frames (map form rows)

-- Bytes are some rows, packed. They are then those that they are read as, and no others.
abbrev pub IsPacked : Fields → List ℕ → Type 0
IsPacked fields bytes = IsPackedOf fields (rows_in fields bytes) bytes

-- The law of packed rows: whose rows bytes are, those they are read as.
abbrev pub PacksReadAsWritten : Type 0
PacksReadAsWritten = (fields : Fields) (rows : List Tuple) (bytes : List ℕ) → IsPackedOf fields rows bytes → rows_in fields bytes ≡ rows

-- field k of a tuple, a Long, is greater than n; values of other kinds stand in the order of values
abbrev pub is_above : ℕ → ℤ → Tuple → Bool
is_above k n t = is_gt (value_cmp (field k t) (value.Long n))
