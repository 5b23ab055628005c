-- A node is checked by its refusals, and then by its types.
use Rattle.std.proofs.Common.{◌≡◌, Bool, true, false, not, if◌then◌else◌, List, Option, Some, None, Result, Err, refl, ap, sym, ◌∙◌}
use Rattle.flow_model.specs.declared.plan.Node.{Node}
use Rattle.flow_model.specs.declared.plan_code.PlanCode.{PlanCode}
use Rattle.flow_model.specs.declared.plan_code.PlanCode.TheVariants as code
use Rattle.flow_model.specs.Rules.{is_placed, references}
use Rattle.plan_check.specs.Places.{Place}
use Rattle.plan_check.specs.Checking.{is_duplicate, has_unknown, typed_node, checked_node}
use Rattle.plan_check.specs.Steps.{refusal}

-- a node after its refusal, where there is one
abbrev pub unless : Option PlanCode → Result Node PlanCode → Result Node PlanCode
unless None typed = typed
unless (Some c) typed = Err c

by_tests : (a b c : Bool) (typed : Result Node PlanCode)
    → (if a then Err code.Duplicate else (if b then Err code.Misplaced else (if c then Err code.UnknownName else typed)))
    ≡ unless (if a then Some code.Duplicate else (if b then Some code.Misplaced else (if c then Some code.UnknownName else None))) typed
by_tests true b c typed = refl
by_tests false true c typed = refl
by_tests false false true typed = refl
by_tests false false false typed = refl

by_refusal : (ps : List Place) (done : List Node) (node : Node) → checked_node ps done node ≡ unless (refusal ps done node) (typed_node done node)
by_refusal ps done node = by_tests (is_duplicate ps node) (not (is_placed done node)) (has_unknown (references node.op)) (typed_node done node)

pub refused_node : (ps : List Place) (done : List Node) (node : Node) (c : PlanCode) → Some c ≡ refusal ps done node → Err c ≡ checked_node ps done node
refused_node ps done node c e = ap (λ o. unless o (typed_node done node)) e ∙ sym (by_refusal ps done node)

pub unrefused_node : (ps : List Place) (done : List Node) (node : Node) → None ≡ refusal ps done node → typed_node done node ≡ checked_node ps done node
unrefused_node ps done node e = ap (λ o. unless o (typed_node done node)) e ∙ sym (by_refusal ps done node)
