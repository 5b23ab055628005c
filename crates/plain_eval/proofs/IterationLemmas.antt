-- One superstep of an iteration, as the code takes it.
use Rattle.std.proofs.Common.{◌≡◌, ℕ, suc, Bool, true, false, not, List, refl, sym, ap, ◌∙◌}
use Rattle.std.specs.Prelude.{Option}
use Rattle.flow_types.specs.declared.order_item.OrderItem.{OrderItem}
use Rattle.flow_model.specs.declared.op.MergeRule.{MergeRule}
use Rattle.flow_model.specs.declared.plan.Node.{Node}
use Rattle.flow_model.specs.Env.{Tuples}
use Rattle.flow_model.specs.Rows.{is_nothing}
use Rattle.flow_model.specs.States.{states, last_state}
use Rattle.flow_model.specs.Solutions.{Solution, no_solution, merged}
use Rattle.flow_model.specs.Algebra.{Env, rows_at, superstep, has_ended, BulkState, bulk_next, DeltaState, delta_next}
use Rattle.plain_eval.proofs.StateLemmas.{last-stops, last-turn}

-- a state of a bulk iteration
abbrev pub bulk_state : Tuples → Bool → BulkState
bulk_state rows ended = record { rows = rows; ended = ended }

-- a state of a delta iteration
abbrev pub delta_state : Tuples → Tuples → DeltaState
delta_state entries workset = record { entries = entries; workset = workset }

-- a solution of these entries
abbrev pub solution : List ℕ → Tuples → Solution
solution key entries = record { key = key; entries = entries }

-- the last state of a bulk iteration that has so many supersteps left
abbrev pub bulk_last : Env → List Node → Env → ℕ → ℕ → Option ℕ → ℕ → BulkState → BulkState
bulk_last inputs nodes env number next until left s =
    last_state s (states (λ (t : BulkState). not t.ended) (bulk_next inputs nodes env number next until) left s)

-- the last state of a delta iteration that has so many supersteps left
abbrev pub delta_last : Env → List Node → Env → ℕ → List ℕ → List OrderItem → MergeRule → ℕ → ℕ → ℕ → DeltaState → DeltaState
delta_last inputs nodes env number key order merge delta next left s =
    last_state s (states (λ (t : DeltaState). not (is_nothing t.workset)) (delta_next inputs nodes env number key order merge delta next) left s)

module _ (inputs : Env) (nodes : List Node) (env : Env) (number next : ℕ) where
  -- a superstep of a bulk iteration
  pub bulk_turn : (until : Option ℕ) (left fewer : ℕ) (rows after : Tuples) (ended : Bool) (made : Env) → left ≡ suc fewer → made ≡ superstep inputs nodes no_solution env number rows → ended ≡ has_ended made until → after ≡ rows_at made next → bulk_last inputs nodes env number next until left (bulk_state rows false) ≡ bulk_last inputs nodes env number next until fewer (bulk_state after ended)
  bulk_turn until left fewer rows after ended made less step end took =
      let goes : BulkState → Bool = λ t. not t.ended in
      let onward : BulkState → BulkState = bulk_next inputs nodes env number next until in
      let last : onward (bulk_state rows false) ≡ bulk_state after ended = ap (λ m. bulk_state (rows_at m next) (has_ended m until)) (sym step) ∙ ap (λ r. bulk_state r (has_ended made until)) (sym took) ∙ ap (bulk_state after) (sym end) in
      last-turn goes onward left fewer (bulk_state rows false) (bulk_state after ended) (bulk_state rows false) less refl ∙ ap (λ s. last_state (bulk_state after ended) (states goes onward fewer s)) last

  -- a bulk iteration that has ended
  pub bulk_end : (until : Option ℕ) (left : ℕ) (rows : Tuples) (ended : Bool) → ended ≡ true → bulk_last inputs nodes env number next until left (bulk_state rows ended) ≡ bulk_state rows ended
  bulk_end until left rows ended h =
      last-stops (λ (t : BulkState). not t.ended) (bulk_next inputs nodes env number next until) left (bulk_state rows ended) (bulk_state rows ended) (ap not h)

  module _ (key : List ℕ) (order : List OrderItem) (merge : MergeRule) (delta : ℕ) where
    -- the state that a superstep makes of another one
    pub next_is : (s : DeltaState) (held : Solution) (workset entries after : Tuples) (made : Env) → workset ≡ s.workset → held ≡ solution key s.entries → made ≡ superstep inputs nodes held env number workset → entries ≡ merged key order merge held.entries (rows_at made delta) → after ≡ rows_at made next → delta_state entries after ≡ delta_next inputs nodes env number key order merge delta next s
    next_is s held workset entries after made work own step merging took =
        let same : Env = superstep inputs nodes (solution key s.entries) env number s.workset in
        let made_is : made ≡ same = step ∙ ap (λ h. superstep inputs nodes h env number workset) own ∙ ap (superstep inputs nodes (solution key s.entries) env number) work in
        let entries_are : entries ≡ merged key order merge s.entries (rows_at same delta) = merging ∙ ap (λ (h : Solution). merged key order merge h.entries (rows_at made delta)) own ∙ ap (λ m. merged key order merge s.entries (rows_at m delta)) made_is in
        let after_is : after ≡ rows_at same next = took ∙ ap (λ m. rows_at m next) made_is in
        ap (λ e. delta_state e after) entries_are ∙ ap (delta_state (merged key order merge s.entries (rows_at same delta))) after_is

    -- a superstep of a delta iteration
    pub delta_turn : (left fewer : ℕ) (s t : DeltaState) → left ≡ suc fewer → is_nothing s.workset ≡ false → t ≡ delta_next inputs nodes env number key order merge delta next s → delta_last inputs nodes env number key order merge delta next left s ≡ delta_last inputs nodes env number key order merge delta next fewer t
    delta_turn left fewer s t less some step =
        let goes : DeltaState → Bool = λ r. not (is_nothing r.workset) in
        let onward : DeltaState → DeltaState = delta_next inputs nodes env number key order merge delta next in
        last-turn goes onward left fewer s t s less (ap not some) ∙ ap (λ r. last_state t (states goes onward fewer r)) (sym step)

    -- a delta iteration that has no workset
    pub delta_end : (left : ℕ) (s : DeltaState) → is_nothing s.workset ≡ true → delta_last inputs nodes env number key order merge delta next left s ≡ s
    delta_end left s h =
        last-stops (λ (r : DeltaState). not (is_nothing r.workset)) (delta_next inputs nodes env number key order merge delta next) left s s (ap not h)
