use Rattle.std.specs.Prelude.{◌≡◌, ℕ, true, List, [], ◌∷◌, codes, pos, None}
use Rattle.flow_types.specs.declared.field_type.FieldType.TheVariants as type
use Rattle.flow_types.specs.declared.value.Value.TheVariants as value
use Rattle.flow_types.specs.declared.agg.Agg.TheVariants as agg
use Rattle.flow_types.specs.declared.expr.BinOp.TheVariants as bin
use Rattle.flow_types.specs.declared.expr.Expr.{Expr}
use Rattle.flow_types.specs.declared.expr.Expr.TheVariants as expr
use Rattle.flow_types.specs.Types.{Fields}
use Rattle.flow_types.specs.Hash.{part}
use Rattle.flow_model.specs.declared.op.Op.{Op}
use Rattle.flow_model.specs.declared.op.Op.TheVariants as op
use Rattle.flow_model.specs.declared.op.JoinKind.TheVariants as kind
use Rattle.flow_model.specs.declared.op.MergeRule.TheVariants as rule
use Rattle.flow_model.specs.declared.plan.Node.{Node}
use Rattle.flow_model.specs.declared.plan.Plan.{Plan}
use Rattle.flow_model.specs.Rules.{IsPlan}
use Rattle.flow_model.specs.Segments.{minimum, widest_record}
use Rattle.plan_need.specs.Allotments.{allotment}

-- Worked numbers, so that a reader can check the formulas by hand.

-- two Longs, and three
abbrev pub pair_of_longs : Fields
pair_of_longs = type.Long ∷ type.Long ∷ []

abbrev pub three_longs : Fields
three_longs = type.Long ∷ type.Long ∷ type.Long ∷ []

-- a node of these parts
abbrev pub node : ℕ → List ℕ → ℕ → Op → List Fields → Fields → Node
node number name home op inputs schema = record { number = number; name = name; home = home; op = op; inputs = inputs; schema = schema }

-- one source of two Longs
abbrev pub pair_plan : Plan
pair_plan = record { segment = 4096; nodes = node 1 (codes "p") 0 (op.Source pair_of_longs 44) [] pair_of_longs ∷ []; result = 1 }

-- a field of an expression's tuple
abbrev pub at : ℕ → Expr
at i = expr.Field i

-- the connected components of a graph: each vertex takes the least label among its neighbours', until none changes
abbrev pub components_plan : Plan
components_plan = record {
  segment = 4096;
  nodes =
      node 1 (codes "edges") 0 (op.Source pair_of_longs 44) [] pair_of_longs
      ∷ node 2 (codes "both") 0 (op.FlatMap 1 (record { when = expr.Lit (value.Bool true); columns = at 0 ∷ at 1 ∷ [] } ∷ record { when = expr.Lit (value.Bool true); columns = at 1 ∷ at 0 ∷ [] } ∷ [])) (pair_of_longs ∷ []) pair_of_longs
      ∷ node 3 (codes "ends") 0 (op.Map 2 (at 0 ∷ [])) (pair_of_longs ∷ []) (type.Long ∷ [])
      ∷ node 4 (codes "verts") 0 (op.Distinct 3) ((type.Long ∷ []) ∷ []) (type.Long ∷ [])
      ∷ node 5 (codes "init") 0 (op.Map 4 (at 0 ∷ at 0 ∷ [])) ((type.Long ∷ []) ∷ []) pair_of_longs
      ∷ node 6 (codes "cc") 0 (op.Delta 5 5 (codes "w") (0 ∷ []) (record { field = 1; down = true } ∷ []) rule.Greatest 100 11 11) (pair_of_longs ∷ pair_of_longs ∷ []) pair_of_longs
      ∷ node 7 (codes "step") 6 (op.Join 6 2 (0 ∷ []) (0 ∷ []) (at 3 ∷ at 1 ∷ []) kind.Inner None None) (pair_of_longs ∷ pair_of_longs ∷ []) pair_of_longs
      ∷ node 8 (codes "least") 6 (op.Group 7 (0 ∷ []) (agg.Min 1 (pos 0) ∷ []) true) (pair_of_longs ∷ []) pair_of_longs
      ∷ node 9 (codes "seen") 6 (op.Probe 8 (0 ∷ []) (at 0 ∷ at 1 ∷ at 3 ∷ [])) (pair_of_longs ∷ pair_of_longs ∷ []) three_longs
      ∷ node 10 (codes "won") 6 (op.Filter 9 (expr.Bin bin.Lt (at 1) (at 2))) (three_longs ∷ []) three_longs
      ∷ node 11 (codes "upd") 6 (op.Map 10 (at 0 ∷ at 1 ∷ [])) (three_longs ∷ []) pair_of_longs
      ∷ [];
  result = 6;
}

-- The pair keeps a plan's rules and needs 16 segments on one worker and 92 on four; with 40 it has 8 to keep datasets
-- and 32 to work. The components need 104 on four workers; of 200 each worker has 50: 7 for its exchange, 11 for its
-- solution set, 8 to keep datasets, 24 to work. The empty key goes to worker 1 of four.
pub record WorkedNumbers : Type 0 where
  pub pair_holds : IsPlan pair_plan
  pub pair_alone : minimum pair_plan 1 ≡ 16
  pub pair_on_four : minimum pair_plan 4 ≡ 92
  pub pair_parts :
      allotment pair_plan 1 40
      ≡ record { workers = 1; segment = 4096; total = 40; share = 40; exchange = 0; solution = 0; cache = 8; work = 32 }
  pub components_widest : widest_record components_plan ≡ 24
  pub components_on_four : minimum components_plan 4 ≡ 104
  pub components_parts :
      allotment components_plan 4 200
      ≡ record { workers = 4; segment = 4096; total = 200; share = 50; exchange = 7; solution = 11; cache = 8; work = 24 }
  pub empty_key : part [] 4 ≡ 1
