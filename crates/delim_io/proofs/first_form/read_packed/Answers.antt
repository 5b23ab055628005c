use Rattle.std.proofs.Common.{arith}
use Rattle.std.proofs.lemmas.Grind.{common_steps}
use Rattle.packed_rows.specs.Packed.{rows_in}
use Rattle.delim_io.proofs.LineLemmas.{line_refused}
use Rattle.delim_io.proofs.first_form.read_packed.Goals as goal

pub returns-in_err-push_line-clause-refused : goal.returns-in_err-push_line-clause-refused
returns-in_err-push_line-clause-refused c =
    λ e. line_refused c.args.schema.now c.args.delimiter c.args.bytes.now (rows_in c.args.schema.now c.loop-rest.rows) c.loop-rest.rest.now c.loop-rest.invariant.passed c.in-Some.line.now c.in-Some.after.now (grind (arith, common_steps)) (grind (arith, common_steps))
