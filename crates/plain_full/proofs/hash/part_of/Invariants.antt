use Rattle.std.proofs.Common.{◌≡◌, take, fold}
use Rattle.flow_types.specs.Tuples.{key_of}
use Rattle.flow_types.specs.Records.{form}
use Rattle.flow_types.specs.Hash.{hash_more, fnv_basis}
use Rattle.plain_full.proofs.hash.part_of.Given as goal

abbrev pub invariant-loop-number : goal.invariant-loop-number
invariant-loop-number l = l.hash ≡ fold hash_more fnv_basis (form (key_of (take l.number-index l.key) l.tuple))
