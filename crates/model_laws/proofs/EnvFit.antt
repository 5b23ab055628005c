-- The law of schemas, whole: nodes evaluated one after the other give tuples of their schemas.
use Rattle.std.proofs.Common.{◌≡◌, ◌≢◌, ℕ, ◌<◌, inl, inr, Bool, true, false, cond, ◌&&◌, ◌==◌, List, [], ◌∷◌, ◌++◌, map, fold, refl, sym, ap, ◌∙◌, subst, arith, Some, None}
use Rattle.std.specs.Prelude.{All, slice_index_or}
use Rattle.std.specs.List.{AllZip}
use Rattle.std.proofs.lemmas.Bool.Decides.{eqb_tells, Decides-eqb}
use Rattle.std.proofs.lemmas.Option.{option_and_then_some}
use Rattle.std.proofs.lemmas.List.{append-nil}
use Rattle.std.proofs.lemmas.List.Folds.{flat_map-map}
use Rattle.std.proofs.lemmas.List.Elements.{All-nil, All-head, All-tail, All-weaker, All-filter, filter_passes}
use Rattle.flow_types.specs.Types.{Fields}
use Rattle.flow_types.specs.Records.{IsTupleOf}
use Rattle.flow_types.proofs.ValueLemmas.{both_true}
use Rattle.flow_model.specs.declared.op.Op.{Op}
use Rattle.flow_model.specs.declared.op.Op.TheVariants as op
use Rattle.flow_model.specs.declared.plan.Node.{Node}
use Rattle.flow_model.specs.declared.made.Made.{Made}
use Rattle.flow_model.specs.Env.{Tuples}
use Rattle.flow_model.specs.Rows.{distinct_rows, top_rows}
use Rattle.flow_model.specs.Solutions.{Solution}
use Rattle.flow_model.specs.Algebra.{Env, rows_at, and_rows, nodes_of, plain_rows, body_step, superstep}
use Rattle.flow_model.specs.Schemas.{branch_types, all_widened}
use Rattle.flow_model.specs.Rules.{node_at, input_schema, bind_schema, schema_in, is_key, are_columns, has_defaults, home_key}
use Rattle.model_laws.specs.LawsOfFits.{AreTuplesOf}
use Rattle.model_laws.specs.LawsOfPlanFits.{NodesFit}
use Rattle.model_laws.proofs.AllLemmas.{All-once}
use Rattle.model_laws.proofs.SchemaLaws.{all_widened-fit}
use Rattle.model_laws.proofs.RowsFit.{map_rows-fit, filter_rows-fit, flat_map_rows-fit, union-fit, group_rows-fit, ranked-same, top_rows-fit}
use Rattle.model_laws.proofs.PairsFit.{join_rows-fit, cogroup_rows-fit, probe_rows-fit}
use Rattle.model_laws.proofs.NodeFacts.{OpFacts, NodeFacts, schema_in-own, schema_in-bind, schema_in-other}

-- under each number stand tuples of the schema that the number stands for there
abbrev pub Fit : List Node → ℕ → Env → Type 0
Fit nodes home env = (n : ℕ) → AreTuplesOf (schema_in nodes home n) (rows_at env n)

-- what is found after one more
pub rows_at-more : (P : Tuples → Type 0) (env : Env) (e : Made) (n : ℕ) → P (rows_at env n) → ((e.number == n) ≡ true → P e.rows) → P (rows_at (env ++ e ∷ []) n)
rows_at-more P [] e n old new = go (e.number == n) refl
  where
    go : (b : Bool) → (e.number == n) ≡ b → P (cond b e.rows [])
    go true h = new h
    go false h = old
rows_at-more P (x ∷ env) e n old new = go (x.number == n) old (λ h. rows_at-more P env e n h new)
  where
    go : (b : Bool) → P (cond b x.rows (rows_at env n)) → (P (rows_at env n) → P (rows_at (env ++ e ∷ []) n)) → P (cond b x.rows (rows_at (env ++ e ∷ []) n))
    go true h more = h
    go false h more = more h

-- rows of a schema put under a number that stands for it
pub fit-more : (nodes : List Node) (home : ℕ) (env : Env) (number : ℕ) (rows : Tuples) → Fit nodes home env → AreTuplesOf (schema_in nodes home number) rows → Fit nodes home (and_rows env number rows)
fit-more nodes home env number rows fit h n =
    rows_at-more (AreTuplesOf (schema_in nodes home n)) env (record { number = number; rows = rows }) n (fit n)
    (λ same. subst (λ m. AreTuplesOf (schema_in nodes home m) rows) ((Decides-eqb number n).0 same) h)

same_some : (fs gs : Fields) → Some fs ≡ Some gs → fs ≡ gs
same_some fs gs e = cc

-- ---- a node that is no iteration

module _ (nodes : List Node) (node : Node) (found : node_at nodes node.number ≡ Some node) (some : node.number ≢ 0) (inputs : Env) (given_fit : Fit nodes 0 inputs) (held : Solution) (held_fit : AreTuplesOf (schema_in nodes 0 node.home) held.entries) (env : Env) (fit : Fit nodes node.home env) where
  -- the rows of an input, by its place
  input_at : (schemas : List Fields) → schemas ≡ node.inputs → (i n : ℕ) → slice_index_or schemas i [] ≡ schema_in nodes node.home n → AreTuplesOf (input_schema node i) (rows_at env n)
  input_at schemas e i n at =
      subst (λ fs. AreTuplesOf fs (rows_at env n)) (sym at ∙ ap (λ list. slice_index_or list i []) e) (fit n)

  names_fit : (names : List ℕ) → AllZip AreTuplesOf (map (schema_in nodes node.home) names) (map (rows_at env) names)
  names_fit [] = tt
  names_fit (n ∷ names) = (fit n, names_fit names)

  pub plain_rows-fit : (o : Op) → OpFacts nodes node o → AreTuplesOf node.schema (plain_rows inputs held env node.number o)
  plain_rows-fit (op.Source fields delimiter) f =
      subst (λ fs. AreTuplesOf fs (rows_at inputs node.number)) (schema_in-own nodes node 0 found some) (given_fit node.number)
  plain_rows-fit (op.Map input columns) f =
      map_rows-fit (input_schema node 0) node.schema columns (rows_at env input) f.typed f.values (input_at _ f.inputs 0 input refl)
  plain_rows-fit (op.Filter input test) f =
      filter_rows-fit (input_schema node 0) node.schema test (rows_at env input) f.typed (input_at _ f.inputs 0 input refl)
  plain_rows-fit (op.FlatMap input rows) f =
      option_and_then_some all_widened (branch_types (input_schema node 0) rows) node.schema f.typed (λ lists p q.
      flat_map_rows-fit (input_schema node 0) node.schema rows lists (rows_at env input) p q f.values (input_at _ f.inputs 0 input refl))
  plain_rows-fit (op.Union names) f =
      let schemas : map (schema_in nodes node.home) names ≡ node.inputs = sym (append-nil (map (schema_in nodes node.home) names)) ∙ f.inputs in
      subst (AreTuplesOf node.schema) (flat_map-map (λ rows. rows) (rows_at env) names)
      (union-fit node.schema (map (schema_in nodes node.home) names) (map (rows_at env) names)
      (all_widened-fit (map (schema_in nodes node.home) names) node.schema (ap all_widened schemas ∙ f.typed)) (names_fit names))
  plain_rows-fit (op.Distinct input) f =
      subst (λ fs. AreTuplesOf fs (distinct_rows (rows_at env input))) (same_some (input_schema node 0) node.schema f.typed)
      (All-once (IsTupleOf (input_schema node 0)) (rows_at env input) (input_at _ f.inputs 0 input refl))
  plain_rows-fit (op.Group input key aggs combine) f =
      group_rows-fit (input_schema node 0) node.schema key aggs (rows_at env input) f.typed f.values (input_at _ f.inputs 0 input refl)
  plain_rows-fit (op.Top input key order count) f =
      subst (λ fs. AreTuplesOf fs (top_rows key order count (rows_at env input))) (ranked-same (input_schema node 0) node.schema key order f.typed)
      (top_rows-fit (input_schema node 0) key order count (rows_at env input) (input_at _ f.inputs 0 input refl))
  plain_rows-fit (op.Join left right left_key right_key columns kind left_default right_default) f =
      join_rows-fit (input_schema node 0) (input_schema node 1) node.schema kind left_key right_key columns left_default right_default (rows_at env left) (rows_at env right) f.typed
      (both_true (is_key 0 left_key && is_key 0 right_key && are_columns columns) (has_defaults kind left_default right_default) f.range).1
      f.values (input_at _ f.inputs 0 left refl) (input_at _ f.inputs 1 right refl)
  plain_rows-fit (op.Cogroup left right left_key right_key left_aggs right_aggs) f =
      cogroup_rows-fit (input_schema node 0) (input_schema node 1) node.schema left_key right_key left_aggs right_aggs (rows_at env left) (rows_at env right) f.typed f.values
      (input_at _ f.inputs 0 left refl) (input_at _ f.inputs 1 right refl)
  plain_rows-fit (op.Bulk init bind most next until) f = All-nil (IsTupleOf node.schema)
  plain_rows-fit (op.Delta solution workset bind key order merge most delta next) f = All-nil (IsTupleOf node.schema)
  plain_rows-fit (op.Probe input key columns) f =
      probe_rows-fit (input_schema node 0) (input_schema node 1) node.schema held key (home_key nodes node) columns (rows_at env input) f.typed f.values (input_at _ f.inputs 0 input refl)
      (subst (λ fs. AreTuplesOf fs held.entries) (ap (λ list. slice_index_or list 1 []) f.inputs) held_fit)

-- ---- supersteps

-- a node of a body: by the rules, and at home there
abbrev pub BodyNode : List Node → ℕ → Node → Type 0
BodyNode nodes home node = NodeFacts nodes node × (node.home ≡ home)

pub body_nodes : (nodes : List Node) (home : ℕ) → All (NodeFacts nodes) nodes → All (BodyNode nodes home) (nodes_of home nodes)
body_nodes nodes home facts i d low = (
  All-filter (λ (node : Node). node.home == home) (NodeFacts nodes) nodes facts i d low,
  (Decides-eqb _ home).0 (filter_passes (λ (node : Node). node.home == home) nodes i d low),
)

behind_home : (home : ℕ) (nodes : List Node) (node : Node) → BodyNode nodes home node → node.number ≢ home
behind_home home nodes node b e = let low : node.home < node.number = b.0.above in let at : node.home ≡ home = b.1 in omega (arith, low, at, e)

pub number_some : (nodes : List Node) (node : Node) → NodeFacts nodes node → node.number ≢ 0
number_some nodes node f e = let low : node.home < node.number = f.above in omega (arith, low, e)

module _ (nodes : List Node) (inputs : Env) (given_fit : Fit nodes 0 inputs) where
  -- a node evaluated among others of its list, over a solution that fits
  node_step-fit : (home : ℕ) (held : Solution) → AreTuplesOf (schema_in nodes 0 home) held.entries → (node : Node) → BodyNode nodes home node → (env : Env) → Fit nodes home env → AreTuplesOf node.schema (plain_rows inputs held env node.number node.op)
  node_step-fit home held held_fit node b env fit =
      plain_rows-fit nodes node b.0.found (number_some nodes node b.0) inputs given_fit held
      (subst (λ m. AreTuplesOf (schema_in nodes 0 m) held.entries) (sym b.1) held_fit) env (subst (λ m. Fit nodes m env) (sym b.1) fit) node.op b.0.of_op

  body_steps-fit : (home : ℕ) (held : Solution) → AreTuplesOf (schema_in nodes 0 home) held.entries → (list : List Node) → All (BodyNode nodes home) list → (env : Env) → Fit nodes home env → Fit nodes home (fold (body_step inputs held) env list)
  body_steps-fit home held held_fit [] all env fit = fit
  body_steps-fit home held held_fit (node ∷ list) all env fit =
      let b : BodyNode nodes home node = All-head (BodyNode nodes home) node list all in
      body_steps-fit home held held_fit list (All-tail (BodyNode nodes home) node list all) (and_rows env node.number (plain_rows inputs held env node.number node.op))
      (fit-more nodes home env node.number (plain_rows inputs held env node.number node.op) fit
      (subst (λ fs. AreTuplesOf fs (plain_rows inputs held env node.number node.op)) (sym (schema_in-own nodes node home b.0.found (behind_home home nodes node b)))
      (node_step-fit home held held_fit node b env fit)))

  module _ (facts : All (NodeFacts nodes) nodes) (none : node_at nodes 0 ≡ None) (iteration : Node) (found : node_at nodes iteration.number ≡ Some iteration) (env : Env) (fit : Fit nodes 0 env) (new : rows_at env iteration.number ≡ []) where
    -- what a body starts with
    body_start-fit : (rows : Tuples) → AreTuplesOf (bind_schema iteration) rows → Fit nodes iteration.number (and_rows env iteration.number rows)
    body_start-fit rows h =
        fit-more nodes iteration.number env iteration.number rows old (subst (λ fs. AreTuplesOf fs rows) (sym (schema_in-bind nodes iteration found)) h)
      where
        old : Fit nodes iteration.number env
        old n = elim (eqb_tells n iteration.number) [ inl here ↦ subst (λ m. AreTuplesOf (schema_in nodes iteration.number m) (rows_at env m)) (sym here.1) (subst (AreTuplesOf (schema_in nodes iteration.number iteration.number)) (sym new) (All-nil (IsTupleOf (schema_in nodes iteration.number iteration.number)))) | inr other ↦ subst (λ fs. AreTuplesOf fs (rows_at env n)) (schema_in-other nodes none iteration.number n other.1) (fit n) ]

    pub superstep-fit : (held : Solution) → AreTuplesOf (schema_in nodes 0 iteration.number) held.entries → (rows : Tuples) → AreTuplesOf (bind_schema iteration) rows → Fit nodes iteration.number (superstep inputs nodes held env iteration.number rows)
    superstep-fit held held_fit rows h =
        body_steps-fit iteration.number held held_fit (nodes_of iteration.number nodes) (body_nodes nodes iteration.number facts) (and_rows env iteration.number rows) (body_start-fit rows h)

  -- so the nodes of the body have tuples of their schemas
  pub body-fits : All (NodeFacts nodes) nodes → (home : ℕ) (env : Env) → Fit nodes home env → NodesFit (nodes_of home nodes) env
  body-fits facts home env fit =
      All-weaker (BodyNode nodes home) (λ (node : Node). AreTuplesOf node.schema (rows_at env node.number))
      (λ node b. subst (λ fs. AreTuplesOf fs (rows_at env node.number)) (schema_in-own nodes node home b.0.found (behind_home home nodes node b)) (fit node.number))
      (nodes_of home nodes) (body_nodes nodes home facts)
