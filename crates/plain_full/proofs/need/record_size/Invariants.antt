use Rattle.std.proofs.Common.{◌≡◌, take}
use Rattle.flow_types.specs.Records.{size}
use Rattle.plain_full.proofs.need.record_size.Given as goal

abbrev pub invariant-loop-value : goal.invariant-loop-value
invariant-loop-value l = l.bytes ≡ size (take l.value-index l.values)
