use Rattle.std.proofs.Common.{ℕ, List, [], ◌∷◌, codes, sym, ap, ◌∙◌, subst, OnOk, OnErr}
use Rattle.std.specs.List.{concat}
use Rattle.flow_outside.specs.Told.{Appends, AppendsProperPrefix}
use Rattle.job_report.specs.declared.fault.Fault.{Fault}
use Rattle.job_report.specs.Lines.{line_of}
use Rattle.job_report.proofs.report.write_line.Goals as goal

pub returns-in-WriteFault-clause-written : goal.returns-in-WriteFault-clause-written
returns-in-WriteFault-clause-written g c =
    subst (λ (f : Fault). OnOk c.write_all-in-WriteFault.result (Appends (g.E.Sink.told c.args.err.now) (g.E.Sink.told c.write_all-in-WriteFault.new.sink) (line_of c.args.program c.args.name.now f))) (sym c.in-WriteFault.is) c.write_all-in-WriteFault.ensures.written

pub returns-in-Memory-clause-written : goal.returns-in-Memory-clause-written
returns-in-Memory-clause-written g c =
    subst (λ (f : Fault). OnOk c.write_all-in-Memory.result (Appends (g.E.Sink.told c.args.err.now) (g.E.Sink.told c.write_all-in-Memory.new.sink) (line_of c.args.program c.args.name.now f))) (sym c.in-Memory.is) c.write_all-in-Memory.ensures.written

pub returns-in-Unbound-clause-written : goal.returns-in-Unbound-clause-written
returns-in-Unbound-clause-written g c =
    let text = ap (λ (t : List ℕ). concat (codes "input not bound: " ∷ t ∷ codes "\n" ∷ [])) (c.as_bytes.ensures.value ∙ c.as_str.ensures.value) ∙ ap (line_of c.args.program c.args.name.now) (sym c.in-Unbound.is) in
    subst (λ (t : List ℕ). OnOk c.write_parts.result (Appends (g.E.Sink.told c.args.err.now) (g.E.Sink.told c.write_parts.new.err) t)) text c.write_parts.ensures.written

pub returns-in-Unbound-clause-broken : goal.returns-in-Unbound-clause-broken
returns-in-Unbound-clause-broken g c =
    let text = ap (λ (t : List ℕ). concat (codes "input not bound: " ∷ t ∷ codes "\n" ∷ [])) (c.as_bytes.ensures.value ∙ c.as_str.ensures.value) ∙ ap (line_of c.args.program c.args.name.now) (sym c.in-Unbound.is) in
    subst (λ (t : List ℕ). OnErr c.write_parts.result (AppendsProperPrefix (g.E.Sink.told c.args.err.now) (g.E.Sink.told c.write_parts.new.err) t)) text c.write_parts.ensures.broken

pub returns-in-TooSmall-clause-written : goal.returns-in-TooSmall-clause-written
returns-in-TooSmall-clause-written g c =
    subst (λ (f : Fault). OnOk c.write_small_line.result (Appends (g.E.Sink.told c.args.err.now) (g.E.Sink.told c.write_small_line.new.err) (line_of c.args.program c.args.name.now f))) (sym c.in-TooSmall.is) c.write_small_line.ensures.written

pub returns-in-Damaged-clause-written : goal.returns-in-Damaged-clause-written
returns-in-Damaged-clause-written g c =
    subst (λ (f : Fault). OnOk c.write_damaged_line.result (Appends (g.E.Sink.told c.args.err.now) (g.E.Sink.told c.write_damaged_line.new.err) (line_of c.args.program c.args.name.now f))) (sym c.in-Damaged.is) c.write_damaged_line.ensures.written

pub returns-in-SolutionFull-clause-written : goal.returns-in-SolutionFull-clause-written
returns-in-SolutionFull-clause-written g c =
    subst (λ (f : Fault). OnOk c.write_full_line.result (Appends (g.E.Sink.told c.args.err.now) (g.E.Sink.told c.write_full_line.new.err) (line_of c.args.program c.args.name.now f))) (sym c.in-SolutionFull.is) c.write_full_line.ensures.written
