use Rattle.std.specs.Prelude.{ℕ, ◌*◌, ◌%◌, ◌^◌, List, fold}
use Rattle.std.specs.Int.Bits.{bit_xor}
use Rattle.flow_types.specs.Tuples.{Tuple}
use Rattle.flow_types.specs.Records.{form}

-- The hash of bytes is FNV-1a with 64 bits, by Fowler, Noll and Vo.

-- the hash of no bytes, 0xcbf29ce484222325
abbrev pub fnv_basis : ℕ
fnv_basis = 14695981039346656037

-- the factor of each step, 0x100000001b3
abbrev pub fnv_prime : ℕ
fnv_prime = 1099511628211

-- a byte hashed after others: exclusive-ored in, and then multiplied modulo 2^64
abbrev pub hash_more : ℕ → ℕ → ℕ
hash_more hash byte = (bit_xor hash byte * fnv_prime) % 2 ^ 64

-- the hash of bytes
abbrev pub fnv1a : List ℕ → ℕ
fnv1a bytes = fold hash_more fnv_basis bytes

-- the worker, from 0, that the rows of a key go to: the hash of the key's record modulo the number of
-- workers
abbrev pub part : Tuple → ℕ → ℕ
part key workers = fnv1a (form key) % workers
