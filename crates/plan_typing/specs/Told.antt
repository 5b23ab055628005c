use Rattle.std.specs.Prelude.{ℕ, Bool, ◌&&◌, min, List, [], ◌∷◌, map, Option, Some, None, option_map, Result, Err}
use Rattle.flow_types.specs.declared.field_type.FieldType.{FieldType}
use Rattle.flow_types.specs.declared.field_type.FieldType.TheVariants as type
use Rattle.flow_types.specs.declared.expr.UnOp.{UnOp}
use Rattle.flow_types.specs.declared.expr.BinOp.{BinOp}
use Rattle.flow_types.specs.declared.expr.Expr.{Expr}
use Rattle.flow_types.specs.Types.{Fields}
use Rattle.flow_types.specs.ExprTypes.{◌>>=◌, Typing, typing_of, is_narrow_type, type_of_one, type_of_two, type_of_choice, type_of_cut}
use Rattle.flow_model.specs.declared.op.Branch.{Branch}
use Rattle.flow_model.specs.declared.plan_code.PlanCode.{PlanCode}
use Rattle.flow_model.specs.declared.plan_code.PlanCode.TheVariants as code
use Rattle.flow_model.specs.Schemas.{only_if, types_of, is_test, both_widened, are_narrow}
use Rattle.plan_typing.specs.declared.expr_type.ExprType.{ExprType}
use Rattle.plan_typing.specs.Typing.{in_width}

-- What is told of types before it is known that they are narrow: a text's bound is told up to the greatest number of 16
-- bits, since a larger one is past a text's limit too.

-- the largest bound that is told
abbrev pub told_limit : ℕ
told_limit = 65535

-- a type with its bound as far as it is told
abbrev pub capped : FieldType → FieldType
capped type.Long = type.Long
capped type.Bool = type.Bool
capped (type.Str bound) = type.Str (min bound told_limit)

-- One expression

-- what is told of an expression's typing
abbrev pub told : Typing → ExprType
told t = record { found = option_map capped t.type; narrow = t.narrow }

-- the same by the type that was found, and by whether the parts are narrow
abbrev pub told_type : Option FieldType → Bool → ExprType
told_type found narrow = record { found = option_map capped found; narrow = narrow && is_narrow_type found }

-- an operation on one expression, by what is told of it
abbrev pub told_one : UnOp → ExprType → ExprType
told_one op a = told_type (a.found >>= type_of_one op) a.narrow

-- an operation on two
abbrev pub told_two : BinOp → ExprType → ExprType → ExprType
told_two op a b = told_type (a.found >>= λ x. b.found >>= λ y. type_of_two op x y) (a.narrow && b.narrow)

-- a choice
abbrev pub told_choice : ExprType → ExprType → ExprType → ExprType
told_choice c a b =
    told_type (c.found >>= λ x. a.found >>= λ y. b.found >>= λ z. type_of_choice x y z) (c.narrow && a.narrow && b.narrow)

-- a text cut to at most n bytes
abbrev pub told_cut : ℕ → ExprType → ExprType
told_cut n a = told_type (a.found >>= type_of_cut n) a.narrow

-- Columns

-- What is told of columns that have types: these, and whether no part of any is wider than a text.
pub record ColumnTypes : Type 0 where
  pub types : Fields
  pub narrow : Bool

-- what is told of columns, where each has a type
abbrev pub told_columns : Fields → List Expr → Option ColumnTypes
told_columns fields es = option_map (λ ts. record { types = map capped ts; narrow = are_narrow fields es }) (types_of fields es)

-- columns of a branch, where its test is of a Bool: they are narrow where the test is too
abbrev pub behind_test : Fields → Expr → ColumnTypes → Option ColumnTypes
behind_test fields test cs =
    only_if (is_test fields test) (record { types = cs.types; narrow = (typing_of fields test).narrow && cs.narrow })

-- what is told of a branch
abbrev pub told_branch : Fields → Branch → Option ColumnTypes
told_branch fields b = told_columns fields b.columns >>= behind_test fields b.when

-- columns of two branches, widened
abbrev pub both_columns : ColumnTypes → ColumnTypes → Option ColumnTypes
both_columns a b = option_map (λ ts. record { types = ts; narrow = a.narrow && b.narrow }) (both_widened a.types b.types)

-- what is told of all branches, widened; none of no branch
abbrev pub told_branches : Fields → List Branch → Option ColumnTypes
told_branches fields [] = None
told_branches fields (b ∷ []) = told_branch fields b
told_branches fields (b ∷ c ∷ rest) = told_branches fields (c ∷ rest) >>= λ others. told_branch fields b >>= λ own. both_columns own others

-- the schema of columns of which so much is told, or the code that refuses them
abbrev pub schema_of_columns : Option ColumnTypes → Result Fields PlanCode
schema_of_columns None = Err code.BadTypes
schema_of_columns (Some cs) = in_width (only_if cs.narrow cs.types)
