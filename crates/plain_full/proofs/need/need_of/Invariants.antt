use Rattle.std.proofs.Common.{◌≡◌, take}
use Rattle.flow_model.specs.Full.{own_entries, packed_bytes}
use Rattle.plain_full.proofs.need.need_of.Given as goal

abbrev pub invariant-loop-entry : goal.invariant-loop-entry
invariant-loop-entry l = l.need ≡ packed_bytes (own_entries l.key l.workers l.worker (take l.entry-index l.entries))
