use Rattle.std.proofs.Common.{◌∙◌, Some, None, Result, sym, subst, arith}
use Rattle.std.proofs.lemmas.Bool.{false≢true}
use Rattle.serde_json.specs.View.{view}
use Rattle.plan_text.specs.declared.tree.PlanTree.{PlanTree}
use Rattle.plan_text.specs.declared.fault.PlanFault.{PlanFault}
use Rattle.plan_text.specs.Plans.{plan_of}
use Rattle.plan_text.specs.Told.{Tells, IsFault}
use Rattle.plan_text.proofs.PlanLemmas.{json_of-text, json_of-none, plan_of-small}
use Rattle.plan_text.proofs.plan.read_plan.Goals as goal

pub returns-in-Ok : goal.returns-in-Ok
returns-in-Ok c =
    let bytes = c.args.bytes.now in
    subst (λ (o : Result PlanTree PlanFault). Tells c.read_tree.result o)
    (sym (plan_of-small bytes (Some (view c.in-Ok.plan)) (omega arith) (json_of-text bytes c.in-Ok.ensures.ok.0 ∙ c.in-Ok.ensures.ok.1))) c.read_tree.ensures

pub returns-in-Err-2 : goal.returns-in-Err-2
returns-in-Err-2 c =
    let bytes = c.args.bytes.now in
    subst (λ (f : PlanFault). IsFault f (plan_of bytes)) (sym c.refused-in-Err-2.ensures)
    (plan_of-small bytes None (omega arith) (json_of-none bytes (c.in-Err.ensures.err (λ h. false≢true (sym c.if-is_memory.false ∙ c.is_memory.ensures.1 h)))))
