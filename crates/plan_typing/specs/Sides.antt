use Rattle.std.specs.Prelude.{ℕ, Bool, ◌&&◌, List, [], ◌∷◌, ◌++◌, Option, is_some, Result}
use Rattle.flow_types.specs.declared.agg.Agg.{Agg}
use Rattle.flow_types.specs.declared.expr.Expr.{Expr}
use Rattle.flow_types.specs.Tuples.{Tuple}
use Rattle.flow_types.specs.Types.{Fields}
use Rattle.flow_types.specs.ExprTypes.{◌>>=◌}
use Rattle.flow_model.specs.declared.op.JoinKind.TheVariants as kind
use Rattle.flow_model.specs.declared.op.Op.TheVariants as op
use Rattle.flow_model.specs.declared.plan_code.PlanCode.{PlanCode}
use Rattle.flow_model.specs.Schemas.{only_if, keys_type, columns_type, input_at}
use Rattle.plan_typing.specs.declared.keys.Sides.{Sides}
use Rattle.plan_typing.specs.Typing.{have_types, typed_op}

-- The two sides of an op whose rows meet by their keys.
pub record SideTypes : Type 0 where
  pub left : Fields
  pub right : Fields
  pub left_key : List ℕ
  pub right_key : List ℕ

-- what code has of them
abbrev pub sides_of : Sides → SideTypes
sides_of s = record { left = s.left.now; right = s.right.now; left_key = s.left_key.now; right_key = s.right_key.now }

-- the sides of an op that takes two inputs
abbrev pub side_types : List Fields → List ℕ → List ℕ → SideTypes
side_types inputs left_key right_key =
    record { left = input_at inputs 0; right = input_at inputs 1; left_key = left_key; right_key = right_key }

-- the key's types on both sides, widened
abbrev pub keys_of : SideTypes → Option Fields
keys_of s = keys_type s.left s.right s.left_key s.right_key

-- the fields of both sides, the left ones first
abbrev pub fields_of : SideTypes → Fields
fields_of s = s.left ++ s.right

-- columns over both sides have types, the keys have the same kinds, and what else is asked for holds
abbrev pub have_pair_types : SideTypes → List Expr → Bool → Bool
have_pair_types s columns fit = is_some (keys_of s) && have_types (fields_of s) columns && fit

-- the schema of columns over both sides
abbrev pub pairs_type : SideTypes → List Expr → Bool → Option Fields
pairs_type s columns fit = keys_of s >>= λ ks. columns_type (fields_of s) columns >>= only_if fit

-- `typed_op` of each op that takes two inputs, over its sides. What an op has beside the arguments here is nothing to its
-- types.

abbrev pub typed_join : SideTypes → List Expr → Option Tuple → Option Tuple → Result Fields PlanCode
typed_join s columns left_default right_default =
    typed_op (s.left ∷ s.right ∷ []) [] (op.Join 0 1 s.left_key s.right_key columns kind.Inner left_default right_default)

-- a probe's right side is the solution, whose key is the delta iteration's
abbrev pub typed_probe : SideTypes → List Expr → Result Fields PlanCode
typed_probe s columns = typed_op (s.left ∷ s.right ∷ []) s.right_key (op.Probe 0 s.left_key columns)

abbrev pub typed_cogroup : SideTypes → List Agg → List Agg → Result Fields PlanCode
typed_cogroup s left_aggs right_aggs =
    typed_op (s.left ∷ s.right ∷ []) [] (op.Cogroup 0 1 s.left_key s.right_key left_aggs right_aggs)
