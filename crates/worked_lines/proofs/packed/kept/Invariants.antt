use Rattle.packed_rows.specs.Packed.{IsPacked}
use Rattle.worked_lines.proofs.packed.kept.Given as goal

abbrev pub invariant-loop-word : goal.invariant-loop-word
invariant-loop-word l = IsPacked l.schema l.packed
