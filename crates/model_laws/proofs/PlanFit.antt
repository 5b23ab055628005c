-- The law of schemas, whole: the nodes of the outer list, and plans.
use Rattle.std.proofs.Common.{◌≡◌, ℕ, ◌≤◌, Bool, true, false, cond, ◌==◌, List, [], ◌∷◌, map, filter, fold, refl, sym, subst, arith, suc, None}
use Rattle.std.specs.Prelude.{All}
use Rattle.std.specs.List.{AllZip}
use Rattle.std.proofs.lemmas.Bool.Decides.{Decides-eqb}
use Rattle.std.proofs.lemmas.List.Elements.{All-nil, All-cons, All-head, All-tail, All-map, All-weaker, All-filter}
use Rattle.flow_types.specs.Records.{IsTupleOf}
use Rattle.flow_types.proofs.ValueLemmas.{both_true}
use Rattle.flow_model.specs.declared.op.Op.{Op}
use Rattle.flow_model.specs.declared.op.Op.TheVariants as op
use Rattle.flow_model.specs.declared.plan.Node.{Node}
use Rattle.flow_model.specs.declared.plan.Plan.{Plan}
use Rattle.flow_model.specs.Env.{Tuples}
use Rattle.flow_model.specs.Solutions.{no_solution}
use Rattle.flow_model.specs.States.{last_state}
use Rattle.flow_model.specs.Algebra.{Env, rows_at, and_rows, is_source, source_numbers, given, nodes_of, plain_rows, BulkState, bulk_start, bulk_states, DeltaState, delta_start, delta_states, node_rows, outer_step, moments}
use Rattle.flow_model.specs.Rules.{is_numbered, node_at, bind_schema, schema_in, IsPlan}
use Rattle.model_laws.specs.LawsOfFits.{AreTuplesOf}
use Rattle.model_laws.proofs.AllLemmas.{All_from_list_all}
use Rattle.model_laws.specs.LawsOfPlanFits.{node_states_values, StatesValues, AreInputsOf, NodesFit, bound_lists, held_lists, superstep_ends, MomentFits, PlanFits}
use Rattle.model_laws.proofs.NodeFacts.{OpFacts, NodeFacts, node_facts, none_below, schema_in-own}
use Rattle.model_laws.proofs.EnvFit.{Fit, BodyNode, body_nodes, rows_at-more, fit-more, number_some, plain_rows-fit}
use Rattle.model_laws.proofs.IterationFit.{Begins, BulkFits, bulk_start-fit, bulk_states-fit, bulk_schema, bulk_bodies, DeltaFits, delta_start-fit, delta_states-fit, delta_bodies}
use Rattle.model_laws.proofs.States.{last_state-all}

-- ---- a node of the outer list

-- the lists that an iteration's bind name and solution stand for, and its bodies
record OpFits (nodes : List Node) (inputs env : Env) (node : Node) (o : Op) : Type 0 where
  rows : AreTuplesOf node.schema (node_rows inputs nodes env node.number o)
  bound : All (AreTuplesOf (bind_schema node)) (bound_lists inputs nodes env node.number o)
  held : All (AreTuplesOf node.schema) (held_lists inputs nodes env node.number o)
  bodies : All (NodesFit (nodes_of node.number nodes)) (superstep_ends inputs nodes env node.number o)

module _ (nodes : List Node) (inputs env : Env) (node : Node) (b : Begins nodes inputs env node) where
  plain-fit : (o : Op) → OpFacts nodes node o → AreTuplesOf node.schema (plain_rows inputs no_solution env node.number o)
  plain-fit o f =
      plain_rows-fit nodes node b.own.found (number_some nodes node b.own) inputs b.given_fit no_solution (All-nil (IsTupleOf (schema_in nodes 0 node.home))) env
      (subst (λ home. Fit nodes home env) (sym b.home) b.fit) o f

  -- a node that is no iteration has no states
  without_states : (o : Op) → AreTuplesOf node.schema (node_rows inputs nodes env node.number o) → bound_lists inputs nodes env node.number o ≡ [] → held_lists inputs nodes env node.number o ≡ [] → superstep_ends inputs nodes env node.number o ≡ [] → OpFits nodes inputs env node o
  without_states o h d e f =
      record {
        rows = h;
        bound = subst (All (AreTuplesOf (bind_schema node))) (sym d) (All-nil (AreTuplesOf (bind_schema node)));
        held = subst (All (AreTuplesOf node.schema)) (sym e) (All-nil (AreTuplesOf node.schema));
        bodies = subst (All (NodesFit (nodes_of node.number nodes))) (sym f) (All-nil (NodesFit (nodes_of node.number nodes)));
      }

  op-fits : (o : Op) → OpFacts nodes node o → OpFits nodes inputs env node o
  op-fits (op.Bulk init bind most next until) f =
      let all : All (BulkFits nodes inputs env node b) (bulk_states inputs nodes env node.number init most next until) = bulk_states-fit nodes inputs env node b init most next until bind f in
      let start : BulkFits nodes inputs env node b (bulk_start env init) = bulk_start-fit nodes inputs env node b init most next until bind f in
      let last : BulkFits nodes inputs env node b (last_state (bulk_start env init) (bulk_states inputs nodes env node.number init most next until)) = last_state-all (BulkFits nodes inputs env node b) (bulk_states inputs nodes env node.number init most next until) (bulk_start env init) start all in
      record {
        rows = subst (λ fs. AreTuplesOf fs (node_rows inputs nodes env node.number (op.Bulk init bind most next until))) (bulk_schema nodes inputs env node b init most next until bind f) last;
        bound = All-map (AreTuplesOf (bind_schema node)) (λ (s : BulkState). s.rows) (bulk_states inputs nodes env node.number init most next until) all;
        held = All-nil (AreTuplesOf node.schema);
        bodies = bulk_bodies nodes inputs env node b init most next until bind f;
      }
  op-fits (op.Delta solution workset bind key order merge most delta next) f =
      let all : All (DeltaFits nodes inputs env node b) (delta_states inputs nodes env node.number solution workset key order merge most delta next) = delta_states-fit nodes inputs env node b solution workset bind key order merge most delta next f in
      let start : DeltaFits nodes inputs env node b (delta_start env solution workset key order) = delta_start-fit nodes inputs env node b solution workset bind key order merge most delta next f in
      let last : DeltaFits nodes inputs env node b (last_state (delta_start env solution workset key order) (delta_states inputs nodes env node.number solution workset key order merge most delta next)) = last_state-all (DeltaFits nodes inputs env node b) (delta_states inputs nodes env node.number solution workset key order merge most delta next) (delta_start env solution workset key order) start all in
      record {
        rows = last.entries;
        bound = All-map (AreTuplesOf (bind_schema node)) (λ (s : DeltaState). s.workset) (delta_states inputs nodes env node.number solution workset key order merge most delta next)
            (All-weaker (DeltaFits nodes inputs env node b) (λ (s : DeltaState). AreTuplesOf (bind_schema node) s.workset) (λ s h. h.workset) (delta_states inputs nodes env node.number solution workset key order merge most delta next) all);
        held = All-map (AreTuplesOf node.schema) (λ (s : DeltaState). s.entries) (delta_states inputs nodes env node.number solution workset key order merge most delta next)
            (All-weaker (DeltaFits nodes inputs env node b) (λ (s : DeltaState). AreTuplesOf node.schema s.entries) (λ s h. h.entries) (delta_states inputs nodes env node.number solution workset key order merge most delta next) all);
        bodies = delta_bodies nodes inputs env node b solution workset bind key order merge most delta next f;
      }
  op-fits (op.Source fields delimiter) f = without_states (op.Source fields delimiter) (plain-fit (op.Source fields delimiter) f) refl refl refl
  op-fits (op.Map input columns) f = without_states (op.Map input columns) (plain-fit (op.Map input columns) f) refl refl refl
  op-fits (op.Filter input test) f = without_states (op.Filter input test) (plain-fit (op.Filter input test) f) refl refl refl
  op-fits (op.FlatMap input rows) f = without_states (op.FlatMap input rows) (plain-fit (op.FlatMap input rows) f) refl refl refl
  op-fits (op.Union names) f = without_states (op.Union names) (plain-fit (op.Union names) f) refl refl refl
  op-fits (op.Distinct input) f = without_states (op.Distinct input) (plain-fit (op.Distinct input) f) refl refl refl
  op-fits (op.Group input key aggs combine) f = without_states (op.Group input key aggs combine) (plain-fit (op.Group input key aggs combine) f) refl refl refl
  op-fits (op.Top input key order count) f = without_states (op.Top input key order count) (plain-fit (op.Top input key order count) f) refl refl refl
  op-fits (op.Join left right left_key right_key columns kind left_default right_default) f = without_states (op.Join left right left_key right_key columns kind left_default right_default) (plain-fit (op.Join left right left_key right_key columns kind left_default right_default) f) refl refl refl
  op-fits (op.Cogroup left right left_key right_key left_aggs right_aggs) f = without_states (op.Cogroup left right left_key right_key left_aggs right_aggs) (plain-fit (op.Cogroup left right left_key right_key left_aggs right_aggs) f) refl refl refl
  op-fits (op.Probe input key columns) f = without_states (op.Probe input key columns) (plain-fit (op.Probe input key columns) f) refl refl refl

-- ---- nodes in their order

-- numbers that rise from a least one
abbrev Rises : ℕ → List Node → Type 0
Rises least [] = Unit {0}
Rises least (x ∷ xs) = (least ≤ x.number) × Rises (suc x.number) xs

rises_filtered : (p : Node → Bool) (n least : ℕ) (nodes : List Node) → is_numbered n nodes ≡ true → least ≤ n → Rises least (filter p nodes)
rises_filtered p n least [] h low = tt
rises_filtered p n least (x ∷ xs) h low =
    let both = both_true (x.number == n) (is_numbered (suc n) xs) h in
    let here : x.number ≡ n = (Decides-eqb x.number n).0 both.0 in
    go (p x) (omega (arith, here, low)) (rises_filtered p (suc n) (suc x.number) xs both.1 (omega (arith, here))) (rises_filtered p (suc n) least xs both.1 (omega (arith, low)))
  where
    go : (b : Bool) → least ≤ x.number → Rises (suc x.number) (filter p xs) → Rises least (filter p xs) → Rises least (cond b (x ∷ filter p xs) (filter p xs))
    go true at more rest = (at, more)
    go false at more rest = rest

-- nothing stands under the numbers from a least one on
abbrev NoneFrom : ℕ → Env → Type 0
NoneFrom least env = (n : ℕ) → least ≤ n → rows_at env n ≡ []

none_from-more : (least : ℕ) (env : Env) (number : ℕ) (rows : Tuples) → NoneFrom least env → least ≤ number → NoneFrom (suc number) (and_rows env number rows)
none_from-more least env number rows none low n high =
    rows_at-more (λ us. us ≡ []) env (record { number = number; rows = rows }) n (none n (omega (arith, low, high)))
    (λ same. absurd (let e : number ≡ n = (Decides-eqb number n).0 same in omega (arith, e, high)))

module _ (nodes : List Node) (inputs : Env) (given_fit : Fit nodes 0 inputs) (facts : All (NodeFacts nodes) nodes) (no_node : node_at nodes 0 ≡ None) where
  begins : (env : Env) (least : ℕ) (node : Node) → BodyNode nodes 0 node → Fit nodes 0 env → NoneFrom least env → least ≤ node.number → Begins nodes inputs env node
  begins env least node b fit none low =
      record { given_fit = given_fit; facts = facts; none = no_node; own = b.0; home = b.1; fit = fit; new = none node.number low }

  step-fit : (env : Env) (node : Node) → Begins nodes inputs env node → Fit nodes 0 (outer_step inputs nodes env node)
  step-fit env node b =
      fit-more nodes 0 env node.number (node_rows inputs nodes env node.number node.op) b.fit
      (subst (λ fs. AreTuplesOf fs (node_rows inputs nodes env node.number node.op)) (sym (schema_in-own nodes node 0 b.own.found (number_some nodes node b.own)))
      (op-fits nodes inputs env node b node.op b.own.of_op).rows)

  outer_steps-fit : (list : List Node) (env : Env) (least : ℕ) → All (BodyNode nodes 0) list → Rises least list → Fit nodes 0 env → NoneFrom least env → Fit nodes 0 (fold (outer_step inputs nodes) env list)
  outer_steps-fit [] env least all rises fit none = fit
  outer_steps-fit (node ∷ list) env least all rises fit none =
      let b : Begins nodes inputs env node = begins env least node (All-head (BodyNode nodes 0) node list all) fit none rises.0 in
      outer_steps-fit list (outer_step inputs nodes env node) (suc node.number) (All-tail (BodyNode nodes 0) node list all) rises.1 (step-fit env node b)
      (none_from-more least env node.number (node_rows inputs nodes env node.number node.op) none rises.0)

  moments-fit : (list : List Node) (env : Env) (least : ℕ) → All (BodyNode nodes 0) list → Rises least list → Fit nodes 0 env → NoneFrom least env → All (MomentFits inputs nodes) (moments inputs nodes env list)
  moments-fit [] env least all rises fit none = All-nil (MomentFits inputs nodes)
  moments-fit (node ∷ list) env least all rises fit none =
      let b : Begins nodes inputs env node = begins env least node (All-head (BodyNode nodes 0) node list all) fit none rises.0 in
      let f : OpFits nodes inputs env node node.op = op-fits nodes inputs env node b node.op b.own.of_op in
      All-cons (MomentFits inputs nodes) (record { before = env; node = node }) (moments inputs nodes (outer_step inputs nodes env node) list)
      (record { rows = f.rows; bound = f.bound; held = f.held; bodies = f.bodies })
      (moments-fit list (outer_step inputs nodes env node) (suc node.number) (All-tail (BodyNode nodes 0) node list all) rises.1 (step-fit env node b)
      (none_from-more least env node.number (node_rows inputs nodes env node.number node.op) none rises.0))

-- ---- inputs

given-fit : (nodes sources : List Node) (lists : List Tuples) → All (NodeFacts nodes) sources → AllZip (λ (node : Node) rows. AreTuplesOf node.schema rows) sources lists → Fit nodes 0 (given (map (λ (node : Node). node.number) sources) lists)
given-fit nodes [] lists facts h n = All-nil (IsTupleOf (schema_in nodes 0 n))
given-fit nodes (x ∷ sources) [] facts h n = absurd h
given-fit nodes (x ∷ sources) (rows ∷ lists) facts h n = go (x.number == n) refl (given-fit nodes sources lists (All-tail (NodeFacts nodes) x sources facts) h.1 n)
  where
    f : NodeFacts nodes x
    f = All-head (NodeFacts nodes) x sources facts

    go : (b : Bool) → (x.number == n) ≡ b → AreTuplesOf (schema_in nodes 0 n) (rows_at (given (map (λ (node : Node). node.number) sources) lists) n) → AreTuplesOf (schema_in nodes 0 n) (cond b rows (rows_at (given (map (λ (node : Node). node.number) sources) lists) n))
    go true e later = subst (λ m. AreTuplesOf (schema_in nodes 0 m) rows) ((Decides-eqb x.number n).0 e) (subst (λ fs. AreTuplesOf fs rows) (sym (schema_in-own nodes x 0 f.found (number_some nodes x f))) h.0)
    go false e later = later

-- ---- plans

module _ (plan : Plan) (inputs : List Tuples) (rules : IsPlan plan) (values : StatesValues plan) (lists : AreInputsOf plan inputs) where
  facts : All (NodeFacts plan.nodes) plan.nodes
  facts = node_facts plan.nodes rules.numbers rules.homes rules.nodes (All_from_list_all node_states_values plan.nodes values)

  inputs_fit : Fit plan.nodes 0 (given (source_numbers plan.nodes) inputs)
  inputs_fit =
      given-fit plan.nodes (filter (λ (node : Node). is_source node.op) plan.nodes) inputs (All-filter (λ (node : Node). is_source node.op) (NodeFacts plan.nodes) plan.nodes facts) lists

  start_fit : Fit plan.nodes 0 []
  start_fit n = All-nil (IsTupleOf (schema_in plan.nodes 0 n))

  rises : Rises 0 (nodes_of 0 plan.nodes)
  rises = rises_filtered (λ (node : Node). node.home == 0) 1 0 plan.nodes rules.numbers (omega arith)

  pub plan-fits : PlanFits plan inputs
  plan-fits =
      record {
        nodes = moments-fit plan.nodes (given (source_numbers plan.nodes) inputs) inputs_fit facts (none_below 1 plan.nodes rules.numbers 0 (omega arith)) (nodes_of 0 plan.nodes) [] 0 (body_nodes plan.nodes 0 facts) rises start_fit (λ n low. refl);
        result = outer_steps-fit plan.nodes (given (source_numbers plan.nodes) inputs) inputs_fit facts (none_below 1 plan.nodes rules.numbers 0 (omega arith)) (nodes_of 0 plan.nodes) [] 0 (body_nodes plan.nodes 0 facts) rises start_fit (λ n low. refl) plan.result;
      }
