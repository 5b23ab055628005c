use Rattle.std.proofs.Common.{ℕ, List, [], ◌∷◌, codes, ap, ◌∙◌, subst, OnOk}
use Rattle.std.specs.List.{concat}
use Rattle.flow_outside.specs.Told.{Appends}
use Rattle.job_report.proofs.LineLemmas.{read_text_input}
use Rattle.job_report.proofs.report.write_read_line.Goals as goal

pub returns-else-source-eq0-clause-written : goal.returns-else-source-eq0-clause-written
returns-else-source-eq0-clause-written g c =
    let text = ap (λ (t : List ℕ). concat (codes "read failed: input " ∷ t ∷ codes "\n" ∷ [])) c.as_bytes.ensures.value ∙ read_text_input c.args.name.now c.args.source c.if-source-eq0.false in
    subst (λ (t : List ℕ). OnOk c.write_parts.result (Appends (g.E.Sink.told c.args.err.now) (g.E.Sink.told c.write_parts.new.err) t)) text c.write_parts.ensures.written
