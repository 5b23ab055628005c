-- A checked node keeps the rules of plans.
use Rattle.std.proofs.Common.{◌≡◌, ℕ, ◌<◌, Bool, true, false, cond, not, ◌&&◌, ◌||◌, ◌==◌, List, [], ◌∷◌, ◌++◌, map, refl, sym, ap, ◌∙◌, subst, arith, Option, Some, None, Ok, Err}
use Rattle.std.proofs.lemmas.List.{length-map}
use Rattle.std.specs.List.{list_all}
use Rattle.std.specs.Prelude.{nat_lt, All}
use Rattle.std.proofs.lemmas.Bool.Decides.{nat_tests}
use Rattle.flow_types.specs.declared.field_type.FieldType.{FieldType}
use Rattle.flow_types.specs.declared.field_type.FieldType.TheVariants as type
use Rattle.flow_types.specs.Types.{Fields, is_schema}
use Rattle.flow_types.proofs.ValueLemmas.{both_true, both_pass}
use Rattle.flow_model.specs.declared.op.Op.{Op}
use Rattle.flow_model.specs.declared.plan.Node.{Node}
use Rattle.flow_model.specs.declared.plan_code.PlanCode.TheVariants as code
use Rattle.flow_model.specs.Algebra.{is_source}
use Rattle.flow_model.specs.Segments.{is_delta}
use Rattle.flow_model.specs.Schemas.{takes, fits_schema, op_type}
use Rattle.flow_model.specs.Rules.{is_iteration, is_probe, is_numbered, node_at, is_node, passes, is_placed, references, end_references, is_visible, is_visible_at_end, schema_at, schema_in, inputs_of, key_at, home_key, rows_type, is_fields, is_fitting, is_from, in_range, are_inputs, node_holds}
use Rattle.plan_text.specs.declared.tree.TreeOp.{TreeOp}
use Rattle.plan_text.specs.declared.tree.TreeOp.TheVariants as tree
use Rattle.plan_text.specs.declared.tree.TreeNode.{TreeNode}
use Rattle.plan_typing.specs.Typing.{has_fields, has_types, in_width, in_fields, typed_op}
use Rattle.plan_check.specs.Places.{Place, is_seen_at, is_seen_at_end, number_of}
use Rattle.plan_check.specs.Numbering.{numbered}
use Rattle.plan_check.specs.Trees.{is_formed, unnumbered}
use Rattle.plan_check.proofs.Follow.{IsOf, IsClosed}
use Rattle.plan_check.proofs.Stands.{Stands}
use Rattle.plan_check.proofs.Numbers.{equal_numbers, below_number, body_placed}
use Rattle.plan_check.proofs.Fitting.{end_seen, no_end, outer_schema, fitting_stays}
use Rattle.plan_check.proofs.References.{AreNamed, starts_visible, ends_visible}

-- ---- schemas are one with themselves

takes-self : (f : FieldType) → takes f f ≡ true
takes-self type.Long = refl
takes-self type.Bool = refl
takes-self (type.Str n) = grind (arith, nat_tests)

fits-self : (fs : Fields) → fits_schema fs fs ≡ true
fits-self [] = refl
fits-self (f ∷ fs) = both_pass (takes f f) (fits_schema fs fs) (takes-self f) (fits-self fs)

fields-self : (found : Option Fields) (fs : Fields) → found ≡ Some fs → is_fields found fs ≡ true
fields-self found fs e = ap (λ o. is_fields o fs) e ∙ both_pass (fits_schema fs fs) (fits_schema fs fs) (fits-self fs) (fits-self fs)

inputs-self : (ls : List Fields) → are_inputs ls ls ≡ true
inputs-self [] = refl
inputs-self (f ∷ fs) = both_pass (is_fields (Some f) f) (are_inputs fs fs) (fields-self (Some f) f refl) (inputs-self fs)

inputs_are : (ls ks : List Fields) → ls ≡ ks → are_inputs ls ks ≡ true
inputs_are ls ks e = ap (λ l. are_inputs l ks) e ∙ inputs-self ks

-- ---- what stands under a number stays when more nodes follow

placed_stays : (before all : List Node) (node : Node) → node_at all node.home ≡ node_at before node.home → is_placed before node ≡ true → is_placed all node ≡ true
placed_stays before all node same h =
    ap (λ o. (not (is_source node.op || is_iteration node.op) || (node.home == 0)) && (not (is_probe node.op) || passes (λ (home : Node). is_delta home.op) o)) same ∙ h

lows : (all : List Node) (node : Node) (ns : List ℕ) → list_all (is_visible all node) ns ≡ true → list_all (λ n. nat_lt n node.number) ns ≡ true
lows all node [] h = refl
lows all node (n ∷ ns) h =
    let both = both_true (is_visible all node n) (list_all (is_visible all node) ns) h in
    let low = both_true (nat_lt n node.number) (is_node all n (λ (m : Node). (m.home == 0) || (m.home == node.home))) both.0 in
    both_pass (nat_lt n node.number) (list_all (λ n. nat_lt n node.number) ns) low.0 (lows all node ns both.1)

below_of : (m n : ℕ) → nat_lt m n ≡ true → m < n
below_of m n e = grind (arith, nat_tests)

schemas_stay : (before all : List Node) (number home : ℕ) (ns : List ℕ) → ((n : ℕ) → n < number → node_at all n ≡ node_at before n)
    → list_all (λ n. nat_lt n number) ns ≡ true → map (schema_in all home) ns ≡ map (schema_in before home) ns
schemas_stay before all number home [] same h = refl
schemas_stay before all number home (n ∷ ns) same h =
    let both = both_true (nat_lt n number) (list_all (λ n. nat_lt n number) ns) h in
    ap (λ s. s ∷ map (schema_in all home) ns) (ap (schema_at home) (same n (below_of n number both.0)))
    ∙ ap (λ ss. schema_in before home n ∷ ss) (schemas_stay before all number home ns same both.1)

inputs_stay : (before all : List Node) (node : Node) → ((n : ℕ) → n < node.number → node_at all n ≡ node_at before n) → node.home < node.number
    → list_all (λ n. nat_lt n node.number) (references node.op) ≡ true → inputs_of all node ≡ inputs_of before node
inputs_stay before all node same above low =
    ap (λ ss. ss ++ cond (is_probe node.op) (schema_in all 0 node.home ∷ []) []) (schemas_stay before all node.number node.home (references node.op) same low)
    ∙ ap (λ o. map (schema_in before node.home) (references node.op) ++ cond (is_probe node.op) (schema_at 0 o ∷ []) []) (same node.home above)

-- ---- a typed op has its schema

schema_of_width : (o : Option Fields) (fields : Fields) → in_width o ≡ Ok fields → (o ≡ Some fields) × (is_schema fields ≡ true)
schema_of_width None fields h = cc
schema_of_width (Some found) fields h = go (is_schema found) refl h
  where
    go : (b : Bool) → is_schema found ≡ b → cond b (Ok found) (Err code.BadWidth) ≡ Ok fields → (Some found ≡ Some fields) × (is_schema fields ≡ true)
    go true e k = let same : found ≡ fields = cc in (ap Some same, subst (λ fs. is_schema fs ≡ true) same e)
    go false e k = cc

pub schema_of : (a b : Bool) (o : Option Fields) (fields : Fields) → in_fields a b o ≡ Ok fields → (o ≡ Some fields) × (is_schema fields ≡ true)
schema_of false b o fields h = cc
schema_of true false o fields h = cc
schema_of true true o fields h = schema_of_width o fields h

pub typed_schema : (inputs : List Fields) (key : List ℕ) (o : Op) (fields : Fields) → typed_op inputs key o ≡ Ok fields → (op_type inputs key o ≡ Some fields) × (is_schema fields ≡ true)
typed_schema inputs key o fields h = schema_of (has_fields inputs key o) (has_types inputs key o) (op_type inputs key o) fields h

-- ---- ranges

ranges : (start end : List ℕ → ℕ) (o : TreeOp) (inputs : List Fields) (key : List ℕ) (fields : Fields) → is_formed (unnumbered o) ≡ true
    → (op_type inputs key (numbered start end o) ≡ Some fields) → is_schema fields ≡ true → in_range (numbered start end o) ≡ true
ranges start end (tree.Source fields delimiter) inputs key found h e s =
    let same : fields ≡ found = cc in both_pass (is_schema fields) _ (subst (λ fs. is_schema fs ≡ true) (sym same) s) h
ranges start end (tree.Map input columns) inputs key found h e s = h
ranges start end (tree.Filter input test) inputs key found h e s = h
ranges start end (tree.FlatMap input rows) inputs key found h e s = h
ranges start end (tree.Union names) inputs key found h e s =
    ap (λ n. is_from 2 8 n) (length-map names start ∙ sym (length-map names (λ name. 0))) ∙ h
ranges start end (tree.Distinct input) inputs key found h e s = refl
ranges start end (tree.Group input key aggs combine) inputs k found h e s = h
ranges start end (tree.Top input key order count) inputs k found h e s = h
ranges start end (tree.Join left right left_key right_key columns kind left_default right_default) inputs key found h e s = h
ranges start end (tree.Cogroup left right left_key right_key left_aggs right_aggs) inputs key found h e s = h
ranges start end (tree.Bulk init bind most next until) inputs key found h e s = h
ranges start end (tree.Delta solution workset bind key order merge most delta next) inputs k found h e s = h
ranges start end (tree.Probe input key columns) inputs k found h e s = h

-- ---- the whole rule of a node

-- what is known of all nodes of a plan that was checked
pub record Whole (ps : List Place) (all : List Node) : Type 0 where
  pub numbers : is_numbered 1 all ≡ true
  pub names : AreNamed ps all
  pub schemas : All (λ (m : Node). is_schema m.schema ≡ true) all

own_op : (ps : List Place) (t : TreeNode) (node : Node) → IsOf ps t node
    → node.op ≡ numbered (number_of ps (is_seen_at node.number node.home)) (number_of ps (is_seen_at_end node.number)) t.op
own_op ps t node is =
    is.op
    ∙ ap (λ n. numbered (number_of ps (is_seen_at n t.home)) (number_of ps (is_seen_at_end n)) t.op) (sym is.number)
    ∙ ap (λ h. numbered (number_of ps (is_seen_at node.number h)) (number_of ps (is_seen_at_end node.number)) t.op) (sym is.home)

-- the end of a node's body, where it has one
end_holds : (ps : List Place) (all : List Node) (node : Node) (w : Whole ps all) (s : Stands ps all node) → list_all (is_visible all node) (references node.op) ≡ true
    → node.inputs ≡ inputs_of all node
    → (list_all (is_visible_at_end all node) (end_references node.op) ≡ true) × (is_fitting all node node.op ≡ true)
end_holds ps all node w s seen inputs = go (is_iteration node.op) refl
  where
    outer : (b : Bool) → (node.home == 0) ≡ b → is_iteration node.op ≡ true → b ≡ true
    outer true e i = refl
    outer false e i = let none = body_placed s.before node s.passed.placed e in cc

    ended : IsClosed all node → node.home ≡ 0 → (list_all (is_visible_at_end all node) (end_references node.op) ≡ true) × (is_fitting all node node.op ≡ true)
    ended c zero_is =
        let both = end_seen c.before node c.ended in (
          ends_visible ps all node s.t.op w.names (own_op ps s.t node s.is) both.0,
          fitting_stays all c.before c.behind node node.op c.parts zero_is inputs seen (outer_schema all w.numbers w.schemas) both.1,
        )

    go : (b : Bool) → is_iteration node.op ≡ b → (list_all (is_visible_at_end all node) (end_references node.op) ≡ true) × (is_fitting all node node.op ≡ true)
    go false i = no_end all node node.op i
    go true i = let at = outer (node.home == 0) refl i in ended (s.ends at i) (equal_numbers node.home 0 at)

pub holds : (ps : List Place) (all : List Node) (node : Node) → Whole ps all → Stands ps all node → node_holds all node ≡ true
holds ps all node w s =
    let numbers : is_numbered 1 (s.before ++ node ∷ s.behind) ≡ true = subst (λ nodes. is_numbered 1 nodes ≡ true) s.parts w.numbers in
    let same : (n : ℕ) → n < node.number → node_at all n ≡ node_at s.before n =
    λ n low. ap (λ nodes. node_at nodes n) s.parts ∙ below_number 1 s.before node s.behind n numbers low in
    let own = own_op ps s.t node s.is in
    let placed = placed_stays s.before all node (same node.home s.above) s.passed.placed in
    let seen = starts_visible ps all node s.t.op w.names own s.passed.known in
    let low = lows all node (references node.op) seen in
    let inputs : inputs_of all node ≡ node.inputs = inputs_stay s.before all node same s.above low ∙ sym s.passed.inputs in
    let typed = typed_schema node.inputs (home_key s.before node) node.op node.schema s.passed.typed in
    let key : home_key all node ≡ home_key s.before node = ap key_at (same node.home s.above) in
    let rows : rows_type all node node.op ≡ Some node.schema = ap (λ k. op_type node.inputs k node.op) key ∙ typed.0 in
    let end = end_holds ps all node w s seen (sym inputs) in
    let range : in_range node.op ≡ true =
    ap in_range own ∙ ranges _ _ s.t.op node.inputs (home_key s.before node) node.schema s.formed (ap (op_type node.inputs (home_key s.before node)) (sym own) ∙ typed.0) typed.1 in
    let a = both_pass (is_placed all node) (list_all (is_visible all node) (references node.op)) placed seen in
    let b = both_pass (is_placed all node && list_all (is_visible all node) (references node.op)) (list_all (is_visible_at_end all node) (end_references node.op)) a end.0 in
    let c = both_pass (is_placed all node && list_all (is_visible all node) (references node.op) && list_all (is_visible_at_end all node) (end_references node.op)) (in_range node.op) b range in
    let d = both_pass (is_placed all node && list_all (is_visible all node) (references node.op) && list_all (is_visible_at_end all node) (end_references node.op) && in_range node.op)
    (are_inputs (inputs_of all node) node.inputs) c (inputs_are (inputs_of all node) node.inputs inputs) in
    let e = both_pass (is_placed all node && list_all (is_visible all node) (references node.op) && list_all (is_visible_at_end all node) (end_references node.op) && in_range node.op && are_inputs (inputs_of all node) node.inputs)
    (is_fields (rows_type all node node.op) node.schema) d (fields-self (rows_type all node node.op) node.schema rows) in
    both_pass (is_placed all node && list_all (is_visible all node) (references node.op) && list_all (is_visible_at_end all node) (end_references node.op) && in_range node.op && are_inputs (inputs_of all node) node.inputs && is_fields (rows_type all node node.op) node.schema)
    (is_fitting all node node.op) e end.1
