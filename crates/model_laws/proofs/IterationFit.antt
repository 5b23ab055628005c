-- The law of schemas, whole: the states of iterations and their supersteps.
use Rattle.std.proofs.Common.{◌≡◌, ℕ, true, cond, not, List, [], map, refl, sym, ap, ◌∙◌, subst, Option, Some, None}
use Rattle.std.specs.Prelude.{All, slice_index_or}
use Rattle.std.proofs.lemmas.List.Elements.{All-map, All-weaker}
use Rattle.flow_types.specs.declared.order_item.OrderItem.{OrderItem}
use Rattle.flow_types.specs.Types.{Fields}
use Rattle.flow_types.specs.Records.{IsTupleOf}
use Rattle.flow_types.proofs.ValueLemmas.{both_true}
use Rattle.std.proofs.lemmas.List.Elements.{All-nil}
use Rattle.flow_model.specs.declared.op.Op.TheVariants as op
use Rattle.flow_model.specs.declared.op.MergeRule.{MergeRule}
use Rattle.flow_model.specs.declared.plan.Node.{Node}
use Rattle.flow_model.specs.Env.{Tuples}
use Rattle.flow_model.specs.Rows.{is_nothing}
use Rattle.flow_model.specs.Solutions.{Solution, no_solution}
use Rattle.flow_model.specs.Algebra.{Env, rows_at, nodes_of, superstep, BulkState, bulk_next, bulk_start, bulk_states, DeltaState, delta_next, delta_start, delta_states}
use Rattle.flow_model.specs.Segments.{is_delta}
use Rattle.flow_model.specs.Schemas.{fits_schema}
use Rattle.flow_model.specs.Rules.{node_at, input_schema, bind_schema, schema_in}
use Rattle.model_laws.specs.LawsOfFits.{AreTuplesOf}
use Rattle.model_laws.specs.LawsOfPlanFits.{NodesFit}
use Rattle.model_laws.proofs.SchemaLaws.{tuple-wider}
use Rattle.model_laws.proofs.RowsFit.{ranked-same, chosen-fit}
use Rattle.model_laws.proofs.PairsFit.{merged-fit}
use Rattle.model_laws.proofs.NodeFacts.{OpFacts, NodeFacts, schema_in-own}
use Rattle.model_laws.proofs.EnvFit.{Fit, number_some, superstep-fit, body-fits}
use Rattle.model_laws.proofs.States.{states-all}

pub same_schema : (fs gs : Fields) → Some fs ≡ Some gs → fs ≡ gs
same_schema fs gs e = cc

-- rows under a number whose schema fits another
wider_at : (nodes : List Node) (home : ℕ) (env : Env) (n : ℕ) (fields : Fields) → Fit nodes home env → fits_schema (schema_in nodes home n) fields ≡ true → AreTuplesOf fields (rows_at env n)
wider_at nodes home env n fields fit e =
    All-weaker (IsTupleOf (schema_in nodes home n)) (IsTupleOf fields) (tuple-wider (schema_in nodes home n) fields e) (rows_at env n) (fit n)

-- What holds when an iteration begins: the plan's nodes are by the rules, and what was evaluated fits.
pub record Begins (nodes : List Node) (inputs env : Env) (iteration : Node) : Type 0 where
  pub given_fit : Fit nodes 0 inputs
  pub facts : All (NodeFacts nodes) nodes
  pub none : node_at nodes 0 ≡ None
  pub own : NodeFacts nodes iteration
  pub home : iteration.home ≡ 0
  pub fit : Fit nodes 0 env
  pub new : rows_at env iteration.number ≡ []

module _ (nodes : List Node) (inputs env : Env) (iteration : Node) (b : Begins nodes inputs env iteration) where
  -- a superstep from rows of the bind name's schema over entries of the iteration's
  end-fit : (held : Solution) → AreTuplesOf iteration.schema held.entries → (rows : Tuples) → AreTuplesOf (bind_schema iteration) rows → Fit nodes iteration.number (superstep inputs nodes held env iteration.number rows)
  end-fit held h rows g =
      superstep-fit nodes inputs b.given_fit b.facts b.none iteration b.own.found env b.fit b.new held
      (subst (λ fs. AreTuplesOf fs held.entries) (sym (schema_in-own nodes iteration 0 b.own.found (number_some nodes iteration b.own))) h) rows g

  end-bodies : (held : Solution) → AreTuplesOf iteration.schema held.entries → (rows : Tuples) → AreTuplesOf (bind_schema iteration) rows → NodesFit (nodes_of iteration.number nodes) (superstep inputs nodes held env iteration.number rows)
  end-bodies held h rows g =
      body-fits nodes inputs b.given_fit b.facts iteration.number (superstep inputs nodes held env iteration.number rows) (end-fit held h rows g)

  -- the rows of an input of the iteration, by its place
  pub start_at : (schemas : List Fields) → schemas ≡ iteration.inputs → (i n : ℕ) → slice_index_or schemas i [] ≡ schema_in nodes iteration.home n → AreTuplesOf (input_schema iteration i) (rows_at env n)
  start_at schemas e i n at =
      subst (λ fs. AreTuplesOf fs (rows_at env n)) (sym (ap (λ home. schema_in nodes home n) b.home) ∙ sym at ∙ ap (λ list. slice_index_or list i []) e) (b.fit n)

  -- ---- bulk

  abbrev pub BulkFits : BulkState → Type 0
  BulkFits s = AreTuplesOf (bind_schema iteration) s.rows

  module _ (init most next : ℕ) (until : Option ℕ) (bind : List ℕ) (f : OpFacts nodes iteration (op.Bulk init bind most next until)) where
    bulk_bind : bind_schema iteration ≡ input_schema iteration 0
    bulk_bind = ap (λ o. input_schema iteration (cond (is_delta o) 1 0)) f.own

    pub bulk_start-fit : BulkFits (bulk_start env init)
    bulk_start-fit = subst (λ fs. AreTuplesOf fs (rows_at env init)) (sym bulk_bind) (start_at _ f.inputs 0 init refl)

    bulk_next-fit : (s : BulkState) → BulkFits s → BulkFits (bulk_next inputs nodes env iteration.number next until s)
    bulk_next-fit s h =
        let end : Env = superstep inputs nodes no_solution env iteration.number s.rows in
        subst (λ fs. AreTuplesOf fs (rows_at end next)) (sym bulk_bind)
        (wider_at nodes iteration.number end next (input_schema iteration 0) (end-fit no_solution (All-nil (IsTupleOf iteration.schema)) s.rows h) f.fitting)

    pub bulk_states-fit : All BulkFits (bulk_states inputs nodes env iteration.number init most next until)
    bulk_states-fit =
        states-all BulkFits (λ (s : BulkState). not s.ended) (bulk_next inputs nodes env iteration.number next until) bulk_next-fit most (bulk_start env init) bulk_start-fit

    pub bulk_schema : bind_schema iteration ≡ iteration.schema
    bulk_schema = bulk_bind ∙ same_schema (input_schema iteration 0) iteration.schema f.typed

    pub bulk_bodies : All (NodesFit (nodes_of iteration.number nodes)) (map (λ (s : BulkState). superstep inputs nodes no_solution env iteration.number s.rows) (bulk_states inputs nodes env iteration.number init most next until))
    bulk_bodies =
        All-map (NodesFit (nodes_of iteration.number nodes)) (λ (s : BulkState). superstep inputs nodes no_solution env iteration.number s.rows) (bulk_states inputs nodes env iteration.number init most next until)
        (All-weaker BulkFits (λ (s : BulkState). NodesFit (nodes_of iteration.number nodes) (superstep inputs nodes no_solution env iteration.number s.rows))
        (λ s h. end-bodies no_solution (All-nil (IsTupleOf iteration.schema)) s.rows h) (bulk_states inputs nodes env iteration.number init most next until) bulk_states-fit)

  -- ---- delta

  pub record DeltaFits (s : DeltaState) : Type 0 where
    pub entries : AreTuplesOf iteration.schema s.entries
    pub workset : AreTuplesOf (bind_schema iteration) s.workset

  module _ (solution workset : ℕ) (bind : List ℕ) (key : List ℕ) (order : List OrderItem) (merge : MergeRule) (most delta next : ℕ) (f : OpFacts nodes iteration (op.Delta solution workset bind key order merge most delta next)) where
    delta_bind : bind_schema iteration ≡ input_schema iteration 1
    delta_bind = ap (λ o. input_schema iteration (cond (is_delta o) 1 0)) f.own

    delta_schema : input_schema iteration 0 ≡ iteration.schema
    delta_schema = ranked-same (input_schema iteration 0) iteration.schema key order f.typed

    pub delta_start-fit : DeltaFits (delta_start env solution workset key order)
    delta_start-fit =
        record {
          entries = chosen-fit iteration.schema key order (rows_at env solution) (subst (λ fs. AreTuplesOf fs (rows_at env solution)) delta_schema (start_at _ f.inputs 0 solution refl));
          workset = subst (λ fs. AreTuplesOf fs (rows_at env workset)) (sym delta_bind) (start_at _ f.inputs 1 workset refl);
        }

    delta_next-fit : (s : DeltaState) → DeltaFits s → DeltaFits (delta_next inputs nodes env iteration.number key order merge delta next s)
    delta_next-fit s h =
        let held : Solution = record { key = key; entries = s.entries } in
        let end : Env = superstep inputs nodes held env iteration.number s.workset in
        let fit : Fit nodes iteration.number end = end-fit held h.entries s.workset h.workset in
        let both = both_true (fits_schema (schema_in nodes iteration.number delta) (input_schema iteration 0)) (fits_schema (schema_in nodes iteration.number next) (input_schema iteration 1)) f.fitting in
        record {
          entries = merged-fit iteration.schema key order merge s.entries (rows_at end delta) h.entries
              (subst (λ fs. AreTuplesOf fs (rows_at end delta)) delta_schema (wider_at nodes iteration.number end delta (input_schema iteration 0) fit both.0));
          workset = subst (λ fs. AreTuplesOf fs (rows_at end next)) (sym delta_bind) (wider_at nodes iteration.number end next (input_schema iteration 1) fit both.1);
        }

    pub delta_states-fit : All DeltaFits (delta_states inputs nodes env iteration.number solution workset key order merge most delta next)
    delta_states-fit =
        states-all DeltaFits (λ (s : DeltaState). not (is_nothing s.workset)) (delta_next inputs nodes env iteration.number key order merge delta next) delta_next-fit most
        (delta_start env solution workset key order) delta_start-fit

    pub delta_bodies : All (NodesFit (nodes_of iteration.number nodes)) (map (λ (s : DeltaState). superstep inputs nodes (record { key = key; entries = s.entries }) env iteration.number s.workset) (delta_states inputs nodes env iteration.number solution workset key order merge most delta next))
    delta_bodies =
        All-map (NodesFit (nodes_of iteration.number nodes)) (λ (s : DeltaState). superstep inputs nodes (record { key = key; entries = s.entries }) env iteration.number s.workset) (delta_states inputs nodes env iteration.number solution workset key order merge most delta next)
        (All-weaker DeltaFits (λ (s : DeltaState). NodesFit (nodes_of iteration.number nodes) (superstep inputs nodes (record { key = key; entries = s.entries }) env iteration.number s.workset))
        (λ s h. end-bodies (record { key = key; entries = s.entries }) h.entries s.workset h.workset) (delta_states inputs nodes env iteration.number solution workset key order merge most delta next) delta_states-fit)
