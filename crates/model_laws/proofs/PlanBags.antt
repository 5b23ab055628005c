-- The law of bags, whole: the nodes of the outer list, and plans.
use Rattle.std.proofs.Common.{◌≡◌, ℕ, List, [], ◌∷◌, ◌++◌, map, fold, find, refl, ap, ◌∙◌, suc}
use Rattle.std.specs.Prelude.{nat_lt}
use Rattle.std.specs.List.{AllZip}
use Rattle.flow_types.specs.SameBags.{SameBag}
use Rattle.flow_types.proofs.BagLaws.{same-from_equal}
use Rattle.flow_model.specs.declared.op.Op.{Op}
use Rattle.flow_model.specs.declared.op.Op.TheVariants as op
use Rattle.flow_model.specs.declared.plan.Node.{Node}
use Rattle.flow_model.specs.declared.plan.Plan.{Plan}
use Rattle.flow_model.specs.Env.{Tuples}
use Rattle.flow_model.specs.Solutions.{no_solution}
use Rattle.flow_model.specs.Algebra.{Env, source_numbers, given, nodes_of, plain_rows, bulk_start, DeltaState, delta_start, node_rows, outer_step, eval, Moment, moments, moments_of, turns, supersteps}
use Rattle.flow_model.specs.Full.{Demand, numbers_below, demand, demands_of_states, demands_of_op, full}
use Rattle.model_laws.proofs.Zips.{Zipped, tail_length-zipped, sum_by-zipped, flat_map-zipped}
use Rattle.model_laws.proofs.States.{last_state-related}
use Rattle.model_laws.proofs.EnvBags.{SameMade, rows_at-same, and_rows-same, given-same, plain_rows-same}
use Rattle.model_laws.proofs.IterationBags.{SameBulk, SameDelta, bulk_start-same, bulk_states-same, delta_start-same, delta_states-same}

-- moments of one node, with the same bags before it
pub record SameMoment (left right : Moment) : Type 0 where
  pub before : Zipped SameMade left.before right.before
  pub node : left.node ≡ right.node

demands_of_states-same : (plan : Plan) (workers budget number : ℕ) (key : List ℕ) (step : ℕ) {ss ts : List DeltaState} → Zipped SameDelta ss ts → demands_of_states plan workers budget number key step ss ≡ demands_of_states plan workers budget number key step ts
demands_of_states-same plan workers budget number key step Zipped.none = refl
demands_of_states-same plan workers budget number key step (Zipped.more {x} {y} {xs} {ys} r z) =
    ap (λ entries. map (demand plan workers budget number key step entries) (numbers_below workers) ++ demands_of_states plan workers budget number key (suc step) xs) r.entries
    ∙ ap (λ rest. map (demand plan workers budget number key step y.entries) (numbers_below workers) ++ rest) (demands_of_states-same plan workers budget number key (suc step) z)

module _ {inputs others : Env} (ins : Zipped SameMade inputs others) (nodes : List Node) where
  module _ {env other : Env} (z : Zipped SameMade env other) where
    plain-same : (number : ℕ) (o : Op) → SameBag (plain_rows inputs no_solution env number o) (plain_rows others no_solution other number o)
    plain-same number o = plain_rows-same ins z no_solution no_solution refl SameBag.none number o

    pub node_rows-same : (number : ℕ) (o : Op) → SameBag (node_rows inputs nodes env number o) (node_rows others nodes other number o)
    node_rows-same number (op.Bulk init bind most next until) =
        let last : SameBulk _ _ = last_state-related SameBulk (bulk_states-same ins nodes z number init most next until) (bulk_start env init) (bulk_start other init) (bulk_start-same z init) in last.rows
    node_rows-same number (op.Delta solution workset bind key order merge most delta next) =
        let last : SameDelta _ _ = last_state-related SameDelta (delta_states-same ins nodes z number solution workset key order merge most delta next) (delta_start env solution workset key order) (delta_start other solution workset key order) (delta_start-same z solution workset key order) in same-from_equal last.entries
    node_rows-same number (op.Source fields delimiter) = plain-same number (op.Source fields delimiter)
    node_rows-same number (op.Map input columns) = plain-same number (op.Map input columns)
    node_rows-same number (op.Filter input test) = plain-same number (op.Filter input test)
    node_rows-same number (op.FlatMap input rows) = plain-same number (op.FlatMap input rows)
    node_rows-same number (op.Union names) = plain-same number (op.Union names)
    node_rows-same number (op.Distinct input) = plain-same number (op.Distinct input)
    node_rows-same number (op.Group input key aggs combine) = plain-same number (op.Group input key aggs combine)
    node_rows-same number (op.Top input key order count) = plain-same number (op.Top input key order count)
    node_rows-same number (op.Join left right left_key right_key columns kind left_default right_default) =
        plain-same number (op.Join left right left_key right_key columns kind left_default right_default)
    node_rows-same number (op.Cogroup left right left_key right_key left_aggs right_aggs) =
        plain-same number (op.Cogroup left right left_key right_key left_aggs right_aggs)
    node_rows-same number (op.Probe input key columns) = plain-same number (op.Probe input key columns)

    pub turns-same : (number : ℕ) (o : Op) → turns inputs nodes env number o ≡ turns others nodes other number o
    turns-same number (op.Bulk init bind most next until) = tail_length-zipped (bulk_states-same ins nodes z number init most next until)
    turns-same number (op.Delta solution workset bind key order merge most delta next) =
        tail_length-zipped (delta_states-same ins nodes z number solution workset key order merge most delta next)
    turns-same number (op.Source fields delimiter) = refl
    turns-same number (op.Map input columns) = refl
    turns-same number (op.Filter input test) = refl
    turns-same number (op.FlatMap input rows) = refl
    turns-same number (op.Union names) = refl
    turns-same number (op.Distinct input) = refl
    turns-same number (op.Group input key aggs combine) = refl
    turns-same number (op.Top input key order count) = refl
    turns-same number (op.Join left right left_key right_key columns kind left_default right_default) = refl
    turns-same number (op.Cogroup left right left_key right_key left_aggs right_aggs) = refl
    turns-same number (op.Probe input key columns) = refl

  outer_steps-same : (list : List Node) {env other : Env} → Zipped SameMade env other → Zipped SameMade (fold (outer_step inputs nodes) env list) (fold (outer_step others nodes) other list)
  outer_steps-same [] z = z
  outer_steps-same (node ∷ list) z = outer_steps-same list (and_rows-same z node.number (node_rows-same z node.number node.op))

  moments-same : (list : List Node) {env other : Env} → Zipped SameMade env other → Zipped SameMoment (moments inputs nodes env list) (moments others nodes other list)
  moments-same [] z = Zipped.none
  moments-same (node ∷ list) z =
      Zipped.more (record { before = z; node = refl }) (moments-same list (and_rows-same z node.number (node_rows-same z node.number node.op)))

module _ {inputs others : Env} (ins : Zipped SameMade inputs others) (plan : Plan) (workers budget : ℕ) where
  demands_of_op-same : {env other : Env} → Zipped SameMade env other → (number : ℕ) (o : Op) → demands_of_op plan workers budget inputs env number o ≡ demands_of_op plan workers budget others other number o
  demands_of_op-same z number (op.Delta solution workset bind key order merge most delta next) =
      demands_of_states-same plan workers budget number key 0 (delta_states-same ins plan.nodes z number solution workset key order merge most delta next)
  demands_of_op-same z number (op.Bulk init bind most next until) = refl
  demands_of_op-same z number (op.Source fields delimiter) = refl
  demands_of_op-same z number (op.Map input columns) = refl
  demands_of_op-same z number (op.Filter input test) = refl
  demands_of_op-same z number (op.FlatMap input rows) = refl
  demands_of_op-same z number (op.Union names) = refl
  demands_of_op-same z number (op.Distinct input) = refl
  demands_of_op-same z number (op.Group input key aggs combine) = refl
  demands_of_op-same z number (op.Top input key order count) = refl
  demands_of_op-same z number (op.Join left right left_key right_key columns kind left_default right_default) = refl
  demands_of_op-same z number (op.Cogroup left right left_key right_key left_aggs right_aggs) = refl
  demands_of_op-same z number (op.Probe input key columns) = refl

-- ---- plans

module _ (plan : Plan) (inputs others : List Tuples) (same : AllZip SameBag inputs others) where
  ins_same : Zipped SameMade (given (source_numbers plan.nodes) inputs) (given (source_numbers plan.nodes) others)
  ins_same = given-same (source_numbers plan.nodes) inputs others same

  pub eval-same : SameBag (eval plan inputs) (eval plan others)
  eval-same = rows_at-same (outer_steps-same ins_same plan.nodes (nodes_of 0 plan.nodes) Zipped.none) plan.result

  pub moments_of-same : Zipped SameMoment (moments_of plan inputs) (moments_of plan others)
  moments_of-same = moments-same ins_same plan.nodes (nodes_of 0 plan.nodes) Zipped.none

  pub supersteps-same : supersteps plan inputs ≡ supersteps plan others
  supersteps-same =
      sum_by-zipped
      (λ (m : Moment). turns (given (source_numbers plan.nodes) inputs) plan.nodes m.before m.node.number m.node.op)
      (λ (m : Moment). turns (given (source_numbers plan.nodes) others) plan.nodes m.before m.node.number m.node.op)
      (λ m n r. turns-same ins_same plan.nodes r.before m.node.number m.node.op
      ∙ ap (λ (node : Node). turns (given (source_numbers plan.nodes) others) plan.nodes n.before node.number node.op) r.node)
      moments_of-same

  pub full-same : (workers budget : ℕ) → full plan inputs workers budget ≡ full plan others workers budget
  full-same workers budget =
      ap (find (λ (d : Demand). nat_lt d.have d.need))
      (flat_map-zipped
      (λ (m : Moment). demands_of_op plan workers budget (given (source_numbers plan.nodes) inputs) m.before m.node.number m.node.op)
      (λ (m : Moment). demands_of_op plan workers budget (given (source_numbers plan.nodes) others) m.before m.node.number m.node.op)
      (λ m n r. demands_of_op-same ins_same plan workers budget r.before m.node.number m.node.op
      ∙ ap (λ (node : Node). demands_of_op plan workers budget (given (source_numbers plan.nodes) others) n.before node.number node.op) r.node)
      moments_of-same)
