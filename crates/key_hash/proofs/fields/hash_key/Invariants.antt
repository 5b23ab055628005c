use Rattle.std.proofs.Common.{◌≡◌, take, fold}
use Rattle.flow_types.specs.Tuples.{key_of}
use Rattle.flow_types.specs.Records.{form, tuple_of}
use Rattle.flow_types.specs.Hash.{hash_more}
use Rattle.key_hash.proofs.fields.hash_key.Given as goal

abbrev pub invariant-loop-number : goal.invariant-loop-number
invariant-loop-number g l =
    l.so_far ≡ fold hash_more l.hash (form (key_of (take l.number-index l.key) (tuple_of l.schema (g.X.Span.seen l.row))))
