use Rattle.std.specs.Prelude.{◌≡◌, ◌≢◌, ◌↔◌, ℕ, ◌+◌, ◌<◌, ◌≤◌, List, [], length, take, drop, Option, Some, None, option_map, is_some}

-- A living reader of a file: the file's name and, where told, the bytes that it has left.
pub record Reading : Type 0 where
  pub name : List ℕ
  pub left : Option (List ℕ)

-- The reader of each number, where one lives.
abbrev pub Readers : Type 0
Readers = ℕ → Option Reading

-- A reader of this number lives.
abbrev pub Lives : Readers → ℕ → Type 0
Lives readers id = readers id ≢ None

-- The name of a reader, and the empty name where none lives.
abbrev pub name_of : Option Reading → List ℕ
name_of None = []
name_of (Some reading) = reading.name

-- The bytes that a reader has left, where told.
abbrev pub left_of : Option Reading → Option (List ℕ)
left_of None = None
left_of (Some reading) = reading.left

-- Every reader but that of number `id` is as it was.
abbrev pub OthersStand : (old new : Readers) → ℕ → Type 0
OthersStand old new id = (k : ℕ) → k ≢ id → new k ≡ old k

-- A reader of number `id`, which no living reader had, was started at the first of the `bytes` of `name`.
pub record Starts (old new : Readers) (name : List ℕ) (bytes : Option (List ℕ)) (id : ℕ) : Type 0 where
  pub fresh : old id ≡ None
  pub lives : new id ≡ Some (record { name = name; left = bytes })
  pub others : OthersStand old new id

-- The reader, once it has given `count` more bytes.
abbrev pub behind : Option Reading → ℕ → Option Reading
behind reader count =
    Some (record { name = name_of reader; left = option_map (drop count) (left_of reader) })

-- An answer of `count` gave the next bytes: the first `count` of what was read into are the first `count` of
-- `rest`, and 0 is answered exactly at the end.
pub record GivesNext (rest into : List ℕ) (count : ℕ) : Type 0 where
  pub within : count ≤ length rest
  pub bytes : take count into ≡ take count rest
  pub end : (count ≡ 0) ↔ (rest ≡ [])

-- What an answer of `count` makes of the reader and of the number of living readers: 0 ends the reader, and after
-- any other answer it lives on behind the bytes that it gave.
pub record GoesOn (old new : Option Reading) (living_old living_new count : ℕ) : Type 0 where
  pub ended : count ≡ 0 → (new ≡ None) × (living_new + 1 ≡ living_old)
  pub lives : 0 < count → (new ≡ behind old count) × (living_new ≡ living_old)

-- After a failed read the reader lives under its name, and its place is open; what it has left is told where it was.
pub record LosesPlace (old new : Option Reading) : Type 0 where
  pub left : Option (List ℕ)
  pub told : is_some left ≡ is_some (left_of old)
  pub lives : new ≡ Some (record { name = name_of old; left = left })
