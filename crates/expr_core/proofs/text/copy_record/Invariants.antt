use Rattle.std.proofs.Common.{◌-◌, drop}
use Rattle.expr_core.proofs.TextLemmas.{Copied}
use Rattle.expr_core.proofs.text.copy_record.Given as goal

abbrev pub invariant-loop-at : goal.invariant-loop-at
invariant-loop-at g l = Copied (drop l.start (g.R.Source.seen l.row)) l.fn.room l.room l.at l.len

abbrev pub decreases-loop-at : goal.decreases-loop-at
decreases-loop-at g l = l.len - l.at
