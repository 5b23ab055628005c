-- What a superstep makes fits what it takes the place of, also where more nodes follow its body.
use Rattle.std.proofs.Common.{◌≡◌, ℕ, Bool, true, false, cond, not, ◌&&◌, ◌||◌, ◌==◌, List, [], ◌∷◌, ◌++◌, map, find, refl, sym, ap, ◌∙◌, subst, arith, Option, Some, None, Ok, Err}
use Rattle.std.specs.List.{list_all}
use Rattle.std.specs.Prelude.{nat_lt, slice_index_or, All}
use Rattle.std.specs.Option.{option_or}
use Rattle.std.proofs.lemmas.List.Folds.{find-append}
use Rattle.std.proofs.lemmas.List.Elements.{All-head, All-tail}
use Rattle.flow_types.specs.Types.{Fields, is_schema}
use Rattle.flow_types.proofs.ValueLemmas.{both_true, both_pass}
use Rattle.flow_model.specs.declared.op.Op.{Op}
use Rattle.flow_model.specs.declared.op.Op.TheVariants as op
use Rattle.flow_model.specs.declared.plan.Node.{Node}
use Rattle.flow_model.specs.declared.plan_code.PlanCode.TheVariants as code
use Rattle.flow_model.specs.Schemas.{fits_schema}
use Rattle.flow_model.specs.Rules.{is_iteration, is_probe, is_numbered, node_at, is_node, passes, references, end_references, is_visible, is_visible_at_end, input_schema, bind_schema, schema_at, schema_in, is_fitting}
use Rattle.model_laws.proofs.NodeFacts.{none_below}
use Rattle.plan_check.specs.Checking.{has_unknown, checked_end}
use Rattle.plan_check.proofs.Numbers.{equal_numbers}

-- ---- the end of a body

pub end_seen : (before : List Node) (node : Node) → checked_end before node ≡ Ok tt → (has_unknown (end_references node.op) ≡ false) × (is_fitting before node node.op ≡ true)
end_seen before node h = go (has_unknown (end_references node.op)) refl (is_fitting before node node.op) refl h
  where
    go : (u : Bool) → has_unknown (end_references node.op) ≡ u → (f : Bool) → is_fitting before node node.op ≡ f
        → cond u (Err code.UnknownName) (cond (not f) (Err code.NoFit) (Ok (tt {0}))) ≡ Ok (tt {0}) → (has_unknown (end_references node.op) ≡ false) × (is_fitting before node node.op ≡ true)
    go true e f g k = cc
    go false e false g k = cc
    go false e true g k = (e, g)

pub no_end : (all : List Node) (node : Node) (o : Op) → is_iteration o ≡ false → (list_all (is_visible_at_end all node) (end_references o) ≡ true) × (is_fitting all node o ≡ true)
no_end all node (op.Source fields delimiter) h = (refl, refl)
no_end all node (op.Map input columns) h = (refl, refl)
no_end all node (op.Filter input test) h = (refl, refl)
no_end all node (op.FlatMap input rows) h = (refl, refl)
no_end all node (op.Union names) h = (refl, refl)
no_end all node (op.Distinct input) h = (refl, refl)
no_end all node (op.Group input key aggs combine) h = (refl, refl)
no_end all node (op.Top input key order count) h = (refl, refl)
no_end all node (op.Join left right left_key right_key columns kind left_default right_default) h = (refl, refl)
no_end all node (op.Cogroup left right left_key right_key left_aggs right_aggs) h = (refl, refl)
no_end all node (op.Bulk init bind most next until) h = cc
no_end all node (op.Delta solution workset bind key order merge most delta next) h = cc
no_end all node (op.Probe input key columns) h = (refl, refl)

-- ---- the schemas of an iteration's inputs

all_found : {X : Type 0} (P : X → Type 0) (p : X → Bool) (xs : List X) (y : X) → All P xs → find p xs ≡ Some y → P y
all_found P p [] y h e = cc
all_found P p (x ∷ xs) y h e = go (p x) e (all_found P p xs y (All-tail P x xs h))
  where
    go : (b : Bool) → cond b (Some x) (find p xs) ≡ Some y → (find p xs ≡ Some y → P y) → P y
    go true f later = let same : x ≡ y = cc in subst P same (All-head P x xs h)
    go false f later = later f

found_number : (nodes : List Node) (n : ℕ) (m : Node) → node_at nodes n ≡ Some m → m.number ≡ n
found_number [] n m e = cc
found_number (x ∷ xs) n m e = go (x.number == n) refl e (found_number xs n m)
  where
    go : (b : Bool) → (x.number == n) ≡ b → cond b (Some x) (node_at xs n) ≡ Some m → (node_at xs n ≡ Some m → m.number ≡ n) → m.number ≡ n
    go true f g later = let same : x ≡ m = cc in subst (λ (y : Node). y.number ≡ n) same (equal_numbers x.number n f)
    go false f g later = later g

pub outer_schema : (all : List Node) → is_numbered 1 all ≡ true → All (λ (m : Node). is_schema m.schema ≡ true) all → (n : ℕ) (test : Node → Bool) → is_node all n test ≡ true
    → is_schema (schema_in all 0 n) ≡ true
outer_schema all numbers schemas n test h = go (node_at all n) refl h
  where
    there : (m : Node) → node_at all n ≡ Some m → (b : Bool) → (m.number == 0) ≡ b → is_schema (cond b (bind_schema m) m.schema) ≡ true
    there m e false f = all_found (λ (m : Node). is_schema m.schema ≡ true) (λ (x : Node). x.number == n) all m schemas e
    there m e true f =
        let zero_is : n ≡ 0 = sym (found_number all n m e) ∙ equal_numbers m.number 0 f in
        let at : node_at all 0 ≡ Some m = ap (node_at all) (sym zero_is) ∙ e in
        let none : node_at all 0 ≡ None = none_below 1 all numbers 0 (omega arith) in
        cc

    go : (o : Option Node) → node_at all n ≡ o → passes test o ≡ true → is_schema (schema_at 0 (node_at all n)) ≡ true
    go None e k = cc
    go (Some m) e k = ap (λ o. is_schema (schema_at 0 o)) e ∙ there m e (m.number == 0) refl

-- ---- fitting stays

fits_stays : (prefix behind : List Node) (home n : ℕ) (g : Fields) → is_schema g ≡ true → fits_schema (schema_in prefix home n) g ≡ true → fits_schema (schema_in (prefix ++ behind) home n) g ≡ true
fits_stays prefix behind home n [] s h = cc
fits_stays prefix behind home n (x ∷ xs) s h = go (node_at prefix n) refl h
  where
    go : (o : Option Node) → node_at prefix n ≡ o → fits_schema (schema_at home o) (x ∷ xs) ≡ true → fits_schema (schema_in (prefix ++ behind) home n) (x ∷ xs) ≡ true
    go None e k = cc
    go (Some m) e k =
        let at : node_at (prefix ++ behind) n ≡ Some m = find-append (λ (y : Node). y.number == n) prefix behind ∙ ap (λ o. option_or o (node_at behind n)) e in
        ap (λ o. fits_schema (schema_at home o) (x ∷ xs)) at ∙ k

-- an input of an iteration has a schema
abbrev pub HasInput : List Node → Node → ℕ → Type 0
HasInput all node i = is_schema (input_schema node i) ≡ true

input_has : (all : List Node) (node : Node) (i n : ℕ) → node.home ≡ 0 → is_visible all node n ≡ true
    → ((n : ℕ) (test : Node → Bool) → is_node all n test ≡ true → is_schema (schema_in all 0 n) ≡ true)
    → input_schema node i ≡ schema_in all node.home n → HasInput all node i
input_has all node i n outer seen schemas is =
    let both = both_true (nat_lt n node.number) (is_node all n (λ (m : Node). (m.home == 0) || (m.home == node.home))) seen in
    ap is_schema (is ∙ ap (λ home. schema_in all home n) outer) ∙ schemas n (λ (m : Node). (m.home == 0) || (m.home == node.home)) both.1

pub fitting_stays : (all prefix behind : List Node) (node : Node) (o : Op) → all ≡ prefix ++ behind → node.home ≡ 0
    → node.inputs ≡ map (schema_in all node.home) (references o) ++ cond (is_probe o) (schema_in all 0 node.home ∷ []) []
    → list_all (is_visible all node) (references o) ≡ true
    → ((n : ℕ) (test : Node → Bool) → is_node all n test ≡ true → is_schema (schema_in all 0 n) ≡ true)
    → is_fitting prefix node o ≡ true → is_fitting all node o ≡ true
fitting_stays all prefix behind node (op.Source fields delimiter) parts outer inputs seen schemas h = refl
fitting_stays all prefix behind node (op.Map input columns) parts outer inputs seen schemas h = refl
fitting_stays all prefix behind node (op.Filter input test) parts outer inputs seen schemas h = refl
fitting_stays all prefix behind node (op.FlatMap input rows) parts outer inputs seen schemas h = refl
fitting_stays all prefix behind node (op.Union names) parts outer inputs seen schemas h = refl
fitting_stays all prefix behind node (op.Distinct input) parts outer inputs seen schemas h = refl
fitting_stays all prefix behind node (op.Group input key aggs combine) parts outer inputs seen schemas h = refl
fitting_stays all prefix behind node (op.Top input key order count) parts outer inputs seen schemas h = refl
fitting_stays all prefix behind node (op.Join left right left_key right_key columns kind left_default right_default) parts outer inputs seen schemas h = refl
fitting_stays all prefix behind node (op.Cogroup left right left_key right_key left_aggs right_aggs) parts outer inputs seen schemas h = refl
fitting_stays all prefix behind node (op.Bulk init bind most next until) parts outer inputs seen schemas h =
    let one = both_true (is_visible all node init) true seen in
    let has : HasInput all node 0 = input_has all node 0 init outer one.0 schemas (ap (λ ls. slice_index_or ls 0 []) inputs) in
    ap (λ nodes. fits_schema (schema_in nodes node.number next) (input_schema node 0)) parts
    ∙ fits_stays prefix behind node.number next (input_schema node 0) has h
fitting_stays all prefix behind node (op.Delta solution workset bind key order merge most delta next) parts outer inputs seen schemas h =
    let one = both_true (is_visible all node solution) (is_visible all node workset && true) seen in
    let two = both_true (is_visible all node workset) true one.1 in
    let first : HasInput all node 0 = input_has all node 0 solution outer one.0 schemas (ap (λ ls. slice_index_or ls 0 []) inputs) in
    let second : HasInput all node 1 = input_has all node 1 workset outer two.0 schemas (ap (λ ls. slice_index_or ls 1 []) inputs) in
    let fit = both_true (fits_schema (schema_in prefix node.number delta) (input_schema node 0)) (fits_schema (schema_in prefix node.number next) (input_schema node 1)) h in
    both_pass (fits_schema (schema_in all node.number delta) (input_schema node 0)) (fits_schema (schema_in all node.number next) (input_schema node 1))
    (ap (λ nodes. fits_schema (schema_in nodes node.number delta) (input_schema node 0)) parts ∙ fits_stays prefix behind node.number delta (input_schema node 0) first fit.0)
    (ap (λ nodes. fits_schema (schema_in nodes node.number next) (input_schema node 1)) parts ∙ fits_stays prefix behind node.number next (input_schema node 1) second fit.1)
fitting_stays all prefix behind node (op.Probe input key columns) parts outer inputs seen schemas h = refl
