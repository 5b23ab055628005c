use Rattle.std.proofs.Common.{◌≡◌, ℕ, List, [], ◌∷◌, codes, ap, ◌∙◌, subst, OnOk, OnErr}
use Rattle.std.specs.List.{concat}
use Rattle.std.specs.Fmt.{decimal}
use Rattle.flow_outside.specs.Told.{Appends, AppendsProperPrefix}
use Rattle.job_report.proofs.report.write_small_line.Goals as goal

pub returns-clause-written : goal.returns-clause-written
returns-clause-written g c =
    let need : c.as_bytes-need.result.now ≡ decimal c.args.need = c.as_bytes-need.ensures.value ∙ c.format.ensures.text in
    let have : c.as_bytes-have.result.now ≡ decimal c.args.have = c.as_bytes-have.ensures.value ∙ c.format-2.ensures.text in
    subst (λ (t : List ℕ). OnOk c.write_parts.result (Appends (g.E.Sink.told c.args.err.now) (g.E.Sink.told c.write_parts.new.err) t)) (ap (λ n. concat (codes "too few segments: need " ∷ n ∷ codes " have " ∷ c.as_bytes-have.result.now ∷ codes "\n" ∷ [])) need ∙ ap (λ k. concat (codes "too few segments: need " ∷ decimal c.args.need ∷ codes " have " ∷ k ∷ codes "\n" ∷ [])) have) c.write_parts.ensures.written

pub returns-clause-broken : goal.returns-clause-broken
returns-clause-broken g c =
    let need : c.as_bytes-need.result.now ≡ decimal c.args.need = c.as_bytes-need.ensures.value ∙ c.format.ensures.text in
    let have : c.as_bytes-have.result.now ≡ decimal c.args.have = c.as_bytes-have.ensures.value ∙ c.format-2.ensures.text in
    subst (λ (t : List ℕ). OnErr c.write_parts.result (AppendsProperPrefix (g.E.Sink.told c.args.err.now) (g.E.Sink.told c.write_parts.new.err) t)) (ap (λ n. concat (codes "too few segments: need " ∷ n ∷ codes " have " ∷ c.as_bytes-have.result.now ∷ codes "\n" ∷ [])) need ∙ ap (λ k. concat (codes "too few segments: need " ∷ decimal c.args.need ∷ codes " have " ∷ k ∷ codes "\n" ∷ [])) have) c.write_parts.ensures.broken
