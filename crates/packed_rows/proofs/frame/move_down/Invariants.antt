use Rattle.std.proofs.Common.{◌-◌, length}
use Rattle.packed_rows.specs.Packed.{is_above}
use Rattle.packed_rows.proofs.KeepLemmas.{Kept}
use Rattle.packed_rows.proofs.frame.move_down.Given as goal

abbrev pub invariant-loop-at : goal.invariant-loop-at
invariant-loop-at l = Kept l.schema (is_above l.field l.number) l.fn.bytes l.bytes l.kept l.at

abbrev pub decreases-loop-at : goal.decreases-loop-at
decreases-loop-at l = length l.bytes - l.at
