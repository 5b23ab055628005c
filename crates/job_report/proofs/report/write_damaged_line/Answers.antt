use Rattle.std.proofs.Common.{◌≡◌, ℕ, List, [], ◌∷◌, codes, ap, ◌∙◌, subst, OnOk, OnErr}
use Rattle.std.specs.List.{concat}
use Rattle.std.specs.Fmt.{decimal}
use Rattle.flow_outside.specs.Told.{Appends, AppendsProperPrefix}
use Rattle.job_report.proofs.report.write_damaged_line.Goals as goal

pub returns-clause-written : goal.returns-clause-written
returns-clause-written g c =
    let worker : c.as_bytes-worker.result.now ≡ decimal c.args.worker = c.as_bytes-worker.ensures.value ∙ c.format.ensures.text in
    let block : c.as_bytes-block.result.now ≡ decimal c.args.block = c.as_bytes-block.ensures.value ∙ c.format-2.ensures.text in
    subst (λ (t : List ℕ). OnOk c.write_parts.result (Appends (g.E.Sink.told c.args.err.now) (g.E.Sink.told c.write_parts.new.err) t)) (ap (λ n. concat (codes "spill damaged: worker " ∷ n ∷ codes " block " ∷ c.as_bytes-block.result.now ∷ codes "\n" ∷ [])) worker ∙ ap (λ k. concat (codes "spill damaged: worker " ∷ decimal c.args.worker ∷ codes " block " ∷ k ∷ codes "\n" ∷ [])) block) c.write_parts.ensures.written

pub returns-clause-broken : goal.returns-clause-broken
returns-clause-broken g c =
    let worker : c.as_bytes-worker.result.now ≡ decimal c.args.worker = c.as_bytes-worker.ensures.value ∙ c.format.ensures.text in
    let block : c.as_bytes-block.result.now ≡ decimal c.args.block = c.as_bytes-block.ensures.value ∙ c.format-2.ensures.text in
    subst (λ (t : List ℕ). OnErr c.write_parts.result (AppendsProperPrefix (g.E.Sink.told c.args.err.now) (g.E.Sink.told c.write_parts.new.err) t)) (ap (λ n. concat (codes "spill damaged: worker " ∷ n ∷ codes " block " ∷ c.as_bytes-block.result.now ∷ codes "\n" ∷ [])) worker ∙ ap (λ k. concat (codes "spill damaged: worker " ∷ decimal c.args.worker ∷ codes " block " ∷ k ∷ codes "\n" ∷ [])) block) c.write_parts.ensures.broken
