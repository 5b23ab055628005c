use Rattle.std.specs.Prelude.{ℕ, ◌+◌, ◌/◌, ◌%◌, ◌^◌, ◌∷◌}
use Rattle.flow_types.specs.Tuples.{Tuple}
use Rattle.flow_types.specs.Records.{form}
use Rattle.flow_types.specs.Hash.{fnv1a}

-- The buckets of keys are this project's own.

-- the bucket, from 0, that the rows of a key go to at a level: the high half of the hash of the level's byte, which
-- is 1 for level 0, and of the key's record behind it, modulo the number of buckets
abbrev pub bucket : ℕ → Tuple → ℕ → ℕ
bucket level key buckets = fnv1a ((1 + level) ∷ form key) / 2 ^ 32 % buckets
