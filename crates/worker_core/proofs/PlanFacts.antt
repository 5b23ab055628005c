-- What the rules of plans say of a node that goes row by row and of what it refers to.
use Rattle.std.proofs.Common.{◌≡◌, ◌≢◌, ℕ, zero, suc, ◌+◌, ◌<◌, Bool, true, false, cond, ◌&&◌, ◌||◌, ◌==◌, List, [], ◌∷◌, ◌++◌, length, map, find, refl, sym, ap, ◌∙◌, subst, arith, append-nil, Option, Some, None, nat_lt}
use Rattle.std.specs.Prelude.{All, slice_index_or}
use Rattle.std.specs.List.{AllByRecursion, list_all}
use Rattle.std.proofs.lemmas.Bool.{ltb-true}
use Rattle.std.proofs.lemmas.Bool.Decides.{Decides-eqb}
use Rattle.std.proofs.lemmas.List.Elements.{All-head, All-tail, All-weaker}
use Rattle.flow_types.specs.Types.{Fields}
use Rattle.flow_types.specs.Records.{IsTupleOf}
use Rattle.flow_types.proofs.ValueLemmas.{both_true}
use Rattle.flow_model.specs.declared.op.Op.{Op}
use Rattle.flow_model.specs.declared.op.Op.TheVariants as op
use Rattle.flow_model.specs.declared.plan.Node.{Node}
use Rattle.flow_model.specs.declared.plan.Plan.{Plan}
use Rattle.flow_model.specs.Env.{Tuples}
use Rattle.flow_model.specs.Rules.{IsPlan, are_inputs, end_references, in_range, inputs_of, is_fields, is_fitting, is_node, is_numbered, is_placed, is_visible, is_visible_at_end, node_at, node_holds, passes, references, rows_type, schema_in}
use Rattle.flow_model.specs.Schemas.{all_widened, branch_types, input_at}
use Rattle.model_laws.specs.LawsOfFits.{AreTuplesOf}
use Rattle.model_laws.specs.LawsOfPlanFits.{StatesValues, node_states_values}
use Rattle.model_laws.proofs.AllLemmas.{All_from_list_all}
use Rattle.model_laws.proofs.NodeFacts.{NodeFacts, OpFacts, node_facts, none_below, schema_in-own}
use Rattle.model_laws.proofs.RowsFit.{filter_rows-fit, flat_map_rows-fit, map_rows-fit}
use Rattle.model_laws.proofs.SchemaLaws.{HasTuplesOf, all_widened-fit}
use Rattle.std.proofs.lemmas.Option.{option_and_then_some}
use Rattle.row_pipe.specs.declared.work.Work.{Work}
use Rattle.row_pipe.specs.declared.work.Work.TheVariants as work
use Rattle.row_pipe.specs.Works.{piped, taken_by, taken_of, work_of}

-- What is found in a list of nodes stands there, with its number.
pub all_found : (P : Node → Type 0) (p : Node → Bool) (nodes : List Node) (node : Node) → All P nodes → find p nodes ≡ Some node → P node
all_found P p [] node all e = cc
all_found P p (x ∷ xs) node all e = go (p x) e (λ f. all_found P p xs node (All-tail P x xs all) f)
  where
    go : (b : Bool) → cond b (Some x) (find p xs) ≡ Some node → (find p xs ≡ Some node → P node) → P node
    go true f later = let same : x ≡ node = cc in subst P same (All-head P x xs all)
    go false f later = later f

pub found_number : (nodes : List Node) (n : ℕ) (node : Node) → node_at nodes n ≡ Some node → node.number ≡ n
found_number [] n node e = cc
found_number (x ∷ xs) n node e = go (x.number == n) refl e (λ f. found_number xs n node f)
  where
    go : (b : Bool) → (x.number == n) ≡ b → cond b (Some x) (node_at xs n) ≡ Some node → (node_at xs n ≡ Some node → node.number ≡ n) → node.number ≡ n
    go true h f later = let same : x ≡ node = cc in subst (λ (y : Node). y.number ≡ n) same ((Decides-eqb x.number n).0 h)
    go false h f later = later f

-- Numbers go up to the length.
pub found_low : (first : ℕ) (nodes : List Node) (n : ℕ) (node : Node) → is_numbered first nodes ≡ true → node_at nodes n ≡ Some node → n < first + length nodes
found_low first [] n node h e = cc
found_low first (x ∷ xs) n node h e =
    let both = both_true (x.number == first) (is_numbered (suc first) xs) h in
    let here : x.number ≡ first = (Decides-eqb x.number first).0 both.0 in
    go (x.number == n) refl e here (λ f. found_low (suc first) xs n node both.1 f)
  where
    go : (b : Bool) → (x.number == n) ≡ b → cond b (Some x) (node_at xs n) ≡ Some node → x.number ≡ first → (node_at xs n ≡ Some node → n < suc first + length xs) → n < first + length (x ∷ xs)
    go true h f here later = let at : x.number ≡ n = (Decides-eqb x.number n).0 h in omega (arith, at, here)
    go false h f here later = omega (arith, later f)

-- A node that is there passes a test.
is_node-found : (nodes : List Node) (n : ℕ) (test : Node → Bool) → is_node nodes n test ≡ true → (node : Node) × (node_at nodes n ≡ Some node)
is_node-found nodes n test h = go (node_at nodes n) refl h
  where
    go : (o : Option Node) → node_at nodes n ≡ o → passes test o ≡ true → (node : Node) × (node_at nodes n ≡ Some node)
    go None e f = cc
    go (Some node) e f = (node, e)

-- each element of a list passes what all do
list_all-at : (p : ℕ → Bool) (ns : List ℕ) (i : ℕ) → list_all p ns ≡ true → i < length ns → p (slice_index_or ns i 0) ≡ true
list_all-at p [] i h low = absurd (omega (arith, low))
list_all-at p (n ∷ ns) zero h low = (both_true (p n) (list_all p ns) h).0
list_all-at p (n ∷ ns) (suc i) h low = list_all-at p ns i (both_true (p n) (list_all p ns) h).1 (omega (arith, low))

by_recursion-at : (P : Fields → Type 0) (f : ℕ → Fields) (ns : List ℕ) (i : ℕ) → AllByRecursion P (map f ns) → i < length ns → P (f (slice_index_or ns i 0))
by_recursion-at P f [] i h low = absurd (omega (arith, low))
by_recursion-at P f (n ∷ ns) zero h low = h.0
by_recursion-at P f (n ∷ ns) (suc i) h low = by_recursion-at P f ns i h.1 (omega (arith, low))

-- the references of a node that keeps the rules are visible there
visible : (nodes : List Node) (node : Node) → node_holds nodes node ≡ true → list_all (is_visible nodes node) (references node.op) ≡ true
visible nodes node holds =
    let placed = is_placed nodes node in
    let seen = list_all (is_visible nodes node) (references node.op) in
    let at_end = list_all (is_visible_at_end nodes node) (end_references node.op) in
    let a = both_true (placed && seen && at_end && in_range node.op && are_inputs (inputs_of nodes node) node.inputs && is_fields (rows_type nodes node node.op) node.schema) (is_fitting nodes node node.op) holds in
    let b = both_true (placed && seen && at_end && in_range node.op && are_inputs (inputs_of nodes node) node.inputs) (is_fields (rows_type nodes node node.op) node.schema) a.0 in
    let c = both_true (placed && seen && at_end && in_range node.op) (are_inputs (inputs_of nodes node) node.inputs) b.0 in
    let d = both_true (placed && seen && at_end) (in_range node.op) c.0 in
    let e = both_true (placed && seen) at_end d.0 in
    (both_true placed seen e.0).1

-- A node that goes row by row takes rows from another: it stands before the node, and the rows of its schema are of the schema that
-- the node takes, and what is made of them is of the node's own.
pub record Link (nodes : List Node) (node : Node) (w : Work) (from : ℕ) : Type 0 where
  pub input : Node
  pub found : node_at nodes from ≡ Some input
  pub number : input.number ≡ from
  pub before : from < node.number
  pub low : node.number < suc (length nodes)
  pub taken : (rows : Tuples) → AreTuplesOf input.schema rows → AreTuplesOf (taken_of node) rows
  pub given : (rows : Tuples) → AreTuplesOf input.schema rows → AreTuplesOf node.schema (piped w rows)

-- What an op makes of rows of one of its inputs' schemas is of its node's schema.
module _ (nodes : List Node) (node : Node) (outer : node.home ≡ 0) (from index : ℕ) (fields : Fields) (is : schema_in nodes 0 from ≡ fields) where
  home_is : schema_in nodes node.home from ≡ fields
  home_is = ap (λ h. schema_in nodes h from) outer ∙ is

  -- the schema of the one input
  only : (n : ℕ) → index < 1 → slice_index_or (n ∷ []) index 0 ≡ from → map (schema_in nodes node.home) (n ∷ []) ++ [] ≡ node.inputs → input_at node.inputs 0 ≡ fields
  only n low at inputs =
      let first : index ≡ 0 = omega (arith, low) in
      let here : n ≡ from = subst (λ i. slice_index_or (n ∷ []) i 0 ≡ from) first at in
      sym (ap (λ schemas. input_at schemas 0) inputs) ∙ ap (schema_in nodes node.home) here ∙ home_is

  by_op : (o : Op) (w : Work) → OpFacts nodes node o → Some w ≡ work_of o → index < length (references o) → slice_index_or (references o) index 0 ≡ from
      → (rows : Tuples) → AreTuplesOf fields rows → AreTuplesOf (taken_by o node.inputs node.schema) rows × AreTuplesOf node.schema (piped w rows)
  by_op (op.Map input columns) w f e low at rows h =
      let here : input_at node.inputs 0 ≡ fields = only input low at f.inputs in
      let taken : AreTuplesOf (input_at node.inputs 0) rows = subst (λ fs. AreTuplesOf fs rows) (sym here) h in
      let same : work.Map columns ≡ w = cc in
      (taken, subst (λ v. AreTuplesOf node.schema (piped v rows)) same (map_rows-fit (input_at node.inputs 0) node.schema columns rows f.typed f.values taken))
  by_op (op.Filter input test) w f e low at rows h =
      let here : input_at node.inputs 0 ≡ fields = only input low at f.inputs in
      let taken : AreTuplesOf (input_at node.inputs 0) rows = subst (λ fs. AreTuplesOf fs rows) (sym here) h in
      let same : work.Filter test ≡ w = cc in
      (taken, subst (λ v. AreTuplesOf node.schema (piped v rows)) same (filter_rows-fit (input_at node.inputs 0) node.schema test rows f.typed taken))
  by_op (op.FlatMap input branches) w f e low at rows h =
      let here : input_at node.inputs 0 ≡ fields = only input low at f.inputs in
      let taken : AreTuplesOf (input_at node.inputs 0) rows = subst (λ fs. AreTuplesOf fs rows) (sym here) h in
      let same : work.FlatMap branches ≡ w = cc in (
        taken,
        subst (λ v. AreTuplesOf node.schema (piped v rows)) same
            (option_and_then_some all_widened (branch_types (input_at node.inputs 0) branches) node.schema f.typed (λ lists p q.
            flat_map_rows-fit (input_at node.inputs 0) node.schema branches lists rows p q f.values taken)),
      )
  by_op (op.Union names) w f e low at rows h =
      let schemas : map (schema_in nodes node.home) names ≡ node.inputs = sym (append-nil (map (schema_in nodes node.home) names)) ∙ f.inputs in
      let wide : HasTuplesOf node.schema (schema_in nodes node.home (slice_index_or names index 0)) =
      by_recursion-at (HasTuplesOf node.schema) (schema_in nodes node.home) names index (all_widened-fit (map (schema_in nodes node.home) names) node.schema (ap all_widened schemas ∙ f.typed)) low in
      let here : schema_in nodes node.home (slice_index_or names index 0) ≡ fields = ap (schema_in nodes node.home) at ∙ home_is in
      let wider : HasTuplesOf node.schema fields = subst (HasTuplesOf node.schema) here wide in
      let all : AreTuplesOf node.schema rows = All-weaker (IsTupleOf fields) (IsTupleOf node.schema) wider rows h in
      let same : work.Pass ≡ w = cc in
      (all, subst (λ v. AreTuplesOf node.schema (piped v rows)) same all)
  by_op (op.Source types delimiter) w f e low at rows h = cc
  by_op (op.Distinct input) w f e low at rows h = cc
  by_op (op.Group input key aggs combine) w f e low at rows h = cc
  by_op (op.Top input key order count) w f e low at rows h = cc
  by_op (op.Join left right left_key right_key columns kind left_default right_default) w f e low at rows h = cc
  by_op (op.Cogroup left right left_key right_key left_aggs right_aggs) w f e low at rows h = cc
  by_op (op.Bulk init bind most next until) w f e low at rows h = cc
  by_op (op.Delta solution workset bind key order merge most delta next) w f e low at rows h = cc
  by_op (op.Probe input key columns) w f e low at rows h = cc

pub link : (plan : Plan) (node : Node) (w : Work) (from index : ℕ) → IsPlan plan → StatesValues plan → node_at plan.nodes node.number ≡ Some node → node.home ≡ 0 → Some w ≡ work_of node.op
    → index < length (references node.op) → slice_index_or (references node.op) index 0 ≡ from → Link plan.nodes node w from
link plan node w from index rules values found outer is low at =
    let facts = all_found (NodeFacts plan.nodes) (λ (m : Node). m.number == node.number) plan.nodes node (node_facts plan.nodes rules.numbers rules.homes rules.nodes (All_from_list_all node_states_values plan.nodes values)) found in
    let holds : node_holds plan.nodes node ≡ true = all_found (λ (m : Node). node_holds plan.nodes m ≡ true) (λ (m : Node). m.number == node.number) plan.nodes node rules.nodes found in
    let seen : is_visible plan.nodes node from ≡ true =
    subst (λ n. is_visible plan.nodes node n ≡ true) at (list_all-at (is_visible plan.nodes node) (references node.op) index (visible plan.nodes node holds) low) in
    let both = both_true (nat_lt from node.number) (is_node plan.nodes from (λ (m : Node). (m.home == 0) || (m.home == node.home))) seen in
    let there = is_node-found plan.nodes from (λ (m : Node). (m.home == 0) || (m.home == node.home)) both.1 in
    let number : there.0.number ≡ from = found_number plan.nodes from there.0 there.1 in
    let found_there : node_at plan.nodes there.0.number ≡ Some there.0 = ap (node_at plan.nodes) number ∙ there.1 in
    let some : there.0.number ≢ 0 = λ zero_is. nothing (sym found_there ∙ ap (node_at plan.nodes) zero_is ∙ none_below 1 plan.nodes rules.numbers 0 (omega arith)) in
    let schema : schema_in plan.nodes 0 from ≡ there.0.schema = ap (schema_in plan.nodes 0) (sym number) ∙ schema_in-own plan.nodes there.0 0 found_there some in
    record {
      input = there.0;
      found = there.1;
      number = number;
      before = ltb-true from node.number both.0;
      low = omega (arith, found_low 1 plan.nodes node.number node rules.numbers found);
      taken = λ rows h. (by_op plan.nodes node outer from index there.0.schema schema node.op w facts.of_op is low at rows h).0;
      given = λ rows h. (by_op plan.nodes node outer from index there.0.schema schema node.op w facts.of_op is low at rows h).1;
    }
  where
    nothing : {X : Type 0} {x : X} → Some x ≡ None → ⊥
    nothing e = cc
