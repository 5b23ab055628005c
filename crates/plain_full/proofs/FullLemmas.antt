-- The first demand, looked for step by step, is the first of all demands.
use Rattle.std.proofs.Common.{◌≡◌, ℕ, suc, List, [], ◌∷◌, map, find, flat_map, refl, sym, ap, ◌∙◌}
use Rattle.std.specs.Option.{option_or}
use Rattle.std.proofs.lemmas.List.Folds.{find-append}
use Rattle.flow_model.specs.declared.op.Op.{Op}
use Rattle.flow_model.specs.declared.op.Op.TheVariants as op
use Rattle.flow_model.specs.declared.plan.Node.{Node}
use Rattle.flow_model.specs.declared.plan.Plan.{Plan}
use Rattle.flow_model.specs.Env.{Tuples}
use Rattle.flow_model.specs.Algebra.{Env, given, source_numbers, DeltaState, delta_states, Moment, moments_of}
use Rattle.flow_model.specs.Full.{Demand, numbers_below, demand, demands_of_states, demands_of_op, solution_bytes, full}
use Rattle.plain_full.specs.Demands.{is_above, first_of_state, first_of_states, first_of_op, first_of_moments, first_of_nodes}

module _ (plan : Plan) (workers budget : ℕ) where
  abbrev there : ℕ
  there = solution_bytes plan workers budget

  of_states : (number : ℕ) (key : List ℕ) (step : ℕ) (ss : List DeltaState) → find is_above (demands_of_states plan workers budget number key step ss) ≡ first_of_states workers there number key step ss
  of_states number key step [] = refl
  of_states number key step (s ∷ ss) =
      find-append is_above (map (demand plan workers budget number key step s.entries) (numbers_below workers)) (demands_of_states plan workers budget number key (suc step) ss)
      ∙ ap (option_or (first_of_state workers there number key step s.entries)) (of_states number key (suc step) ss)

  of_op : (inputs env : Env) (number : ℕ) (o : Op) → find is_above (demands_of_op plan workers budget inputs env number o) ≡ first_of_op workers there inputs plan.nodes env number o
  of_op inputs env number (op.Source fields delimiter) = refl
  of_op inputs env number (op.Map input columns) = refl
  of_op inputs env number (op.Filter input test) = refl
  of_op inputs env number (op.FlatMap input rows) = refl
  of_op inputs env number (op.Union names) = refl
  of_op inputs env number (op.Distinct input) = refl
  of_op inputs env number (op.Group input key aggs combine) = refl
  of_op inputs env number (op.Top input key order count) = refl
  of_op inputs env number (op.Join left right left_key right_key columns kind left_default right_default) = refl
  of_op inputs env number (op.Cogroup left right left_key right_key left_aggs right_aggs) = refl
  of_op inputs env number (op.Bulk init bind most next until) = refl
  of_op inputs env number (op.Delta solution workset bind key order merge most delta next) =
      of_states number key 0 (delta_states inputs plan.nodes env number solution workset key order merge most delta next)
  of_op inputs env number (op.Probe input key columns) = refl

  -- the demands of a moment
  abbrev of_moment : Env → Moment → List Demand
  of_moment inputs m = demands_of_op plan workers budget inputs m.before m.node.number m.node.op

  of_moments : (inputs : Env) (ms : List Moment) → find is_above (flat_map (of_moment inputs) ms) ≡ first_of_moments workers there inputs plan.nodes ms
  of_moments inputs [] = refl
  of_moments inputs (m ∷ ms) =
      find-append is_above (of_moment inputs m) (flat_map (of_moment inputs) ms)
      ∙ ap (λ o. option_or o (find is_above (flat_map (of_moment inputs) ms))) (of_op inputs m.before m.node.number m.node.op)
      ∙ ap (option_or (first_of_op workers there inputs plan.nodes m.before m.node.number m.node.op)) (of_moments inputs ms)

  pub full_is : (lists : List Tuples) → full plan lists workers budget ≡ first_of_nodes workers there (given (source_numbers plan.nodes) lists) plan.nodes [] plan.nodes
  full_is lists = of_moments (given (source_numbers plan.nodes) lists) (moments_of plan lists)

-- of what the program has at hand
pub full_from : (plan : Plan) (lists : List Tuples) (workers budget have : ℕ) (nodes : List Node) (inputs : List Tuples) → nodes ≡ plan.nodes → inputs ≡ lists → have ≡ solution_bytes plan workers budget → first_of_nodes workers have (given (source_numbers nodes) inputs) nodes [] nodes ≡ full plan lists workers budget
full_from plan lists workers budget have nodes inputs nodes_are inputs_are have_is =
    ap (λ h. first_of_nodes workers h (given (source_numbers nodes) inputs) nodes [] nodes) have_is
    ∙ ap (λ ns. first_of_nodes workers (solution_bytes plan workers budget) (given (source_numbers ns) inputs) ns [] ns) nodes_are
    ∙ ap (λ ls. first_of_nodes workers (solution_bytes plan workers budget) (given (source_numbers plan.nodes) ls) plan.nodes [] plan.nodes) inputs_are
    ∙ sym (full_is plan workers budget lists)
