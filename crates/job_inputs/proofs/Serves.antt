-- A plan that is served keeps the rules of plans.
use Rattle.std.proofs.Common.{◌≡◌, ℕ, List, Option, Some, None, Result, Ok, Err, IfOk, refl, ap, ◌∙◌}
use Rattle.flow_model.specs.declared.plan.Plan.{Plan}
use Rattle.flow_model.specs.Rules.{IsPlan}
use Rattle.plan_text.specs.declared.tree.TreeNode.{TreeNode}
use Rattle.plan_text.specs.declared.tree.PlanTree.{PlanTree}
use Rattle.plan_text.specs.declared.fault.PlanFault.{PlanFault}
use Rattle.plan_text.specs.Told.{Tells}
use Rattle.plan_text.specs.Plans.{plan_of}
use Rattle.plan_check.specs.Checking.{◌>>then◌, checked}
use Rattle.plan_check.proofs.Trees.{reading_leaves_trees}
use Rattle.plan_check.proofs.Plans.{keeps_rules}
use Rattle.job_words.specs.declared.program.Program.{Program}
use Rattle.job_inputs.specs.Served.{unless_unbuilt, built_tree, served}

-- what follows a check ends well only where the check does
then_ok : {A B E : Type 0} (r : Result A E) (f : A → Result B E) (x : B) → (r >>then f) ≡ Ok x → (y : A) × (r ≡ Ok y) × (f y ≡ Ok x)
then_ok (Ok y) f x h = (y, refl, h)
then_ok (Err e) f x h = cc

same_tree : (t : PlanTree) (o : Option TreeNode) (u : PlanTree) → unless_unbuilt t o ≡ Ok u → t ≡ u
same_tree t None u h = cc
same_tree t (Some node) u h = cc

-- A plan that is served keeps the rules of plans.
pub serves_plans : (p : Program) (bytes : List ℕ) (t : PlanTree) (r : Result Plan PlanFault) → plan_of bytes ≡ Ok t → Tells r (built_tree p t >>then λ u. checked u) → IfOk r IsPlan
serves_plans p bytes t (Err e) read h = tt
serves_plans p bytes t (Ok plan) read h =
    let built = then_ok (built_tree p t) (λ u. checked u) plan h in
    let same : t ≡ built.0 = same_tree t _ built.0 built.1 in
    keeps_rules t plan (reading_leaves_trees bytes t read) (ap checked same ∙ built.2)

-- A plan that a program serves keeps the rules of plans.
pub served_keeps : (p : Program) (bytes : List ℕ) (plan : Plan) → served p bytes ≡ Ok plan → IsPlan plan
served_keeps p bytes plan is =
    let read = then_ok (plan_of bytes) (λ t. built_tree p t >>then λ u. checked u) plan is in
    let built = then_ok (built_tree p read.0) (λ u. checked u) plan read.2 in
    let same : read.0 ≡ built.0 = same_tree read.0 _ built.0 built.1 in
    keeps_rules read.0 plan (reading_leaves_trees bytes read.0 read.1) (ap checked same ∙ built.2)
