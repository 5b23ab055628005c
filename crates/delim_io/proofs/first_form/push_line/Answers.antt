use Rattle.std.proofs.Common.{subst, IsTrue}
use Rattle.flow_types.specs.Types.{Fields, fits}
use Rattle.delim_io.proofs.LineLemmas.{line_fits}
use Rattle.delim_io.proofs.first_form.push_line.Goals as goal

pub push-requires-clause-fitting : goal.push-requires-clause-fitting
push-requires-clause-fitting c =
    subst (λ (fields : Fields). IsTrue (fits fields c.in_ok-row.row)) c.fields.ensures.value
    (line_fits c.fields.result.now c.args.delimiter c.args.line.now c.in_ok-row.row c.in_ok-row.ensures.ok)
