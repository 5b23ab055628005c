use Rattle.std.proofs.Common.{◌≡◌, take, fold}
use Rattle.flow_types.specs.Hash.{hash_more}
use Rattle.key_hash.proofs.fnv.hash_bytes.Given as goal

abbrev pub invariant-loop-byte : goal.invariant-loop-byte
invariant-loop-byte l = l.so_far ≡ fold hash_more l.hash (take l.byte-index l.bytes)
