use Rattle.std.proofs.Common.{◌≡◌, ℕ, List, [], ◌∷◌, codes, ap, ◌∙◌, subst, OnOk}
use Rattle.std.specs.List.{concat}
use Rattle.std.specs.Fmt.{decimal}
use Rattle.flow_outside.specs.Told.{Appends}
use Rattle.job_report.specs.Lines.{code_text}
use Rattle.job_report.proofs.report.write_plan_line.Goals as goal

pub returns-clause-written : goal.returns-clause-written
returns-clause-written g c =
    let node : c.as_bytes-node.result.now ≡ decimal c.args.node = c.as_bytes-node.ensures.value ∙ c.format.ensures.text in
    let code : c.as_bytes.result.now ≡ code_text c.args.code = c.as_bytes.ensures.value ∙ c.code_text.ensures in
    subst (λ (t : List ℕ). OnOk c.write_parts.result (Appends (g.E.Sink.told c.args.err.now) (g.E.Sink.told c.write_parts.new.err) t)) (ap (λ n. concat (codes "plan refused: node " ∷ n ∷ codes ": " ∷ c.as_bytes.result.now ∷ codes "\n" ∷ [])) node ∙ ap (λ k. concat (codes "plan refused: node " ∷ decimal c.args.node ∷ codes ": " ∷ k ∷ codes "\n" ∷ [])) code) c.write_parts.ensures.written
