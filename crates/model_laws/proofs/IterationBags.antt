-- The law of bags, whole: the states of iterations.
use Rattle.std.proofs.Common.{◌≡◌, ℕ, not, List, refl, ap, ◌∙◌, Option, Some, None}
use Rattle.flow_types.specs.declared.order_item.OrderItem.{OrderItem}
use Rattle.flow_types.specs.SameBags.{SameBag}
use Rattle.flow_types.proofs.BagLaws.{same-from_equal}
use Rattle.flow_model.specs.declared.op.MergeRule.{MergeRule}
use Rattle.flow_model.specs.declared.plan.Node.{Node}
use Rattle.flow_model.specs.Env.{Tuples}
use Rattle.flow_model.specs.Rows.{is_nothing}
use Rattle.flow_model.specs.Solutions.{no_solution, merged}
use Rattle.flow_model.specs.Algebra.{Env, BulkState, has_ended, bulk_next, bulk_start, bulk_states, DeltaState, delta_next, delta_start, delta_states}
use Rattle.model_laws.proofs.OpBags.{is_nothing-same, chosen-same, merged_equal}
use Rattle.model_laws.proofs.Zips.{Zipped}
use Rattle.model_laws.proofs.States.{states-related}
use Rattle.model_laws.proofs.EnvBags.{SameMade, rows_at-same, superstep-same}

-- states of a bulk iteration with the same bags, and of a delta iteration, whose entries are one list
pub record SameBulk (left right : BulkState) : Type 0 where
  pub rows : SameBag left.rows right.rows
  pub ended : left.ended ≡ right.ended

pub record SameDelta (left right : DeltaState) : Type 0 where
  pub entries : left.entries ≡ right.entries
  pub workset : SameBag left.workset right.workset

pub bulk_start-same : {env other : Env} → Zipped SameMade env other → (init : ℕ) → SameBulk (bulk_start env init) (bulk_start other init)
bulk_start-same z init = record { rows = rows_at-same z init; ended = refl }

pub delta_start-same : {env other : Env} → Zipped SameMade env other → (solution workset : ℕ) (key : List ℕ) (order : List OrderItem) → SameDelta (delta_start env solution workset key order) (delta_start other solution workset key order)
delta_start-same z solution workset key order =
    record { entries = chosen-same key order (rows_at-same z solution); workset = rows_at-same z workset }

-- the entries after a superstep
merged_next : (key : List ℕ) (order : List OrderItem) (merge : MergeRule) {os ps xs ys : Tuples} → os ≡ ps → SameBag xs ys → merged key order merge os xs ≡ merged key order merge ps ys
merged_next key order merge {os} {ps} {xs} {ys} e s = merged_equal key order merge os s ∙ ap (λ us. merged key order merge us ys) e

module _ {inputs others : Env} (ins : Zipped SameMade inputs others) where
  module _ (nodes : List Node) {env other : Env} (z : Zipped SameMade env other) (number : ℕ) where
    has_ended-same : {left right : Env} → Zipped SameMade left right → (until : Option ℕ) → has_ended left until ≡ has_ended right until
    has_ended-same y None = refl
    has_ended-same y (Some until) = is_nothing-same _ _ (rows_at-same y until)

    bulk_next-same : (next : ℕ) (until : Option ℕ) (s t : BulkState) → SameBulk s t → SameBulk (bulk_next inputs nodes env number next until s) (bulk_next others nodes other number next until t)
    bulk_next-same next until s t r =
        let end = superstep-same ins nodes no_solution no_solution refl SameBag.none z number r.rows in
        record { rows = rows_at-same end next; ended = has_ended-same end until }

    pub bulk_states-same : (init most next : ℕ) (until : Option ℕ) → Zipped SameBulk (bulk_states inputs nodes env number init most next until) (bulk_states others nodes other number init most next until)
    bulk_states-same init most next until =
        states-related SameBulk (λ s. not s.ended) (bulk_next inputs nodes env number next until) (bulk_next others nodes other number next until)
        (λ s t r. ap not r.ended) (bulk_next-same next until) most (bulk_start env init) (bulk_start other init) (bulk_start-same z init)

    delta_next-same : (key : List ℕ) (order : List OrderItem) (merge : MergeRule) (delta next : ℕ) (s t : DeltaState) → SameDelta s t → SameDelta (delta_next inputs nodes env number key order merge delta next s) (delta_next others nodes other number key order merge delta next t)
    delta_next-same key order merge delta next s t r =
        let end = superstep-same ins nodes (record { key = key; entries = s.entries }) (record { key = key; entries = t.entries }) refl (same-from_equal r.entries) z number r.workset in
        record { entries = merged_next key order merge r.entries (rows_at-same end delta); workset = rows_at-same end next }

    pub delta_states-same : (solution workset : ℕ) (key : List ℕ) (order : List OrderItem) (merge : MergeRule) (most delta next : ℕ) → Zipped SameDelta (delta_states inputs nodes env number solution workset key order merge most delta next) (delta_states others nodes other number solution workset key order merge most delta next)
    delta_states-same solution workset key order merge most delta next =
        states-related SameDelta (λ s. not (is_nothing s.workset)) (delta_next inputs nodes env number key order merge delta next) (delta_next others nodes other number key order merge delta next)
        (λ s t r. ap not (is_nothing-same s.workset t.workset r.workset)) (delta_next-same key order merge delta next) most (delta_start env solution workset key order) (delta_start other solution workset key order) (delta_start-same z solution workset key order)
