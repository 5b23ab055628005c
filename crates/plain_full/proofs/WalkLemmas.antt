-- A walk along a plan's nodes, at one that has a demand above what is there.
use Rattle.std.proofs.Common.{◌≡◌, ℕ, ◌+◌, ◌<◌, Bool, true, cond, eqb, List, ◌∷◌, length, get_or, drop, Option, Some, None, is_some, option_map, sym, ap, ◌∙◌, arith}
use Rattle.std.specs.Option.{option_or}
use Rattle.std.proofs.lemmas.Bool.Decides.{nat_tests}
use Rattle.std.proofs.lemmas.List.{at_drop_more}
use Rattle.flow_model.specs.declared.plan.Node.{Node}
use Rattle.flow_model.specs.Algebra.{Env, moments, nodes_of, outer_step}
use Rattle.flow_model.specs.Full.{Demand}
use Rattle.plain_full.specs.declared.demand.Demand as code
use Rattle.plain_full.specs.Demands.{seen, first_of_op, first_of_moments, first_of_nodes}

is_outer : (home : ℕ) → home ≡ 0 → eqb home 0 ≡ true
is_outer home h = grind (arith, nat_tests)

module _ (workers have : ℕ) (inputs : Env) (all : List Node) where
  -- the first demand of what stands from a node on
  abbrev from : Env → List Node → Option Demand
  from env nodes = first_of_nodes workers have inputs all env nodes

  -- of a node in the outer list, or of what stands behind it
  abbrev from_if : Env → Node → List Node → Bool → Option Demand
  from_if env node nodes outer = first_of_moments workers have inputs all (moments inputs all env (cond outer (node ∷ nodes_of 0 nodes) (nodes_of 0 nodes)))

  split : (env : Env) (nodes : List Node) (i : ℕ) (node : Node) (outer : Bool) → i < length nodes → node ≡ get_or nodes i node → eqb node.home 0 ≡ outer → from env (drop i nodes) ≡ from_if env node (drop (i + 1) nodes) outer
  split env nodes i node outer h is home =
      at_drop_more (from env) nodes i node h
      ∙ ap (λ n. from env (n ∷ drop (i + 1) nodes)) (sym is)
      ∙ ap (from_if env node (drop (i + 1) nodes)) home

  -- a node that has one
  pub walk-finds : (first : Option code.Demand) (env : Env) (nodes : List Node) (i : ℕ) (node : Node) → is_some first ≡ true → i < length nodes → node ≡ get_or nodes i node → node.home ≡ 0 → option_map seen first ≡ first_of_op workers have inputs all env node.number node.op → option_map seen first ≡ from env (drop i nodes)
  walk-finds None env nodes i node some h is home e = cc
  walk-finds (Some d) env nodes i node some h is home e =
      ap (λ o. option_or o (from (outer_step inputs all env node) (drop (i + 1) nodes))) e
      ∙ sym (split env nodes i node true h is (is_outer node.home home))
