use Rattle.delim_io.proofs.LineLemmas.{Taken}
use Rattle.delim_io.proofs.first_form.read_line.Given as goal

abbrev pub invariant-loop-i : goal.invariant-loop-i
invariant-loop-i l = Taken l.fields l.delimiter l.line l.values.items l.i l.rest
