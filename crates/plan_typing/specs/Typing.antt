use Rattle.std.specs.Prelude.{ℕ, ◌+◌, ◌==◌, Bool, true, false, ◌&&◌, nat_lt, if◌then◌else◌, List, [], ◌∷◌, ◌++◌, length, Option, Some, None, is_some, Result, Ok, Err}
use Rattle.std.specs.List.{list_all}
use Rattle.flow_types.specs.declared.expr.Expr.{Expr}
use Rattle.flow_types.specs.declared.agg.Agg.{Agg}
use Rattle.flow_types.specs.declared.agg.Agg.TheVariants as agg
use Rattle.flow_types.specs.Types.{Fields, is_schema}
use Rattle.flow_types.specs.ExprTypes.{◌>>=◌, is_within}
use Rattle.flow_model.specs.declared.op.Branch.{Branch}
use Rattle.flow_model.specs.declared.op.Op.{Op}
use Rattle.flow_model.specs.declared.op.Op.TheVariants as op
use Rattle.flow_model.specs.declared.plan_code.PlanCode.{PlanCode}
use Rattle.flow_model.specs.declared.plan_code.PlanCode.TheVariants as code
use Rattle.flow_model.specs.Schemas.{first_and_others, types_of, is_test, all_widened, is_fold, has_order, keys_type, default_fits, input_at, op_type}

-- The schema of an op's rows, or the first of the codes `BadField`, `BadTypes` and `BadWidth` that refuses it, by the
-- schemas of the rows that it takes. The codes and their order are this project's own.

-- Field numbers

-- the number of an input's fields
abbrev pub field_count : List Fields → ℕ → ℕ
field_count inputs i = length (input_at inputs i)

-- each field that a key names is one of so many
abbrev pub is_key_within : ℕ → List ℕ → Bool
is_key_within count key = list_all (λ k. nat_lt k count) key

-- two keys have one length
abbrev pub are_as_long : List ℕ → List ℕ → Bool
are_as_long left_key right_key = length left_key == length right_key

-- each field that these expressions name is one of so many
abbrev pub are_within : ℕ → List Expr → Bool
are_within count es = list_all (is_within count) es

-- the same of a branch
abbrev pub is_branch_within : ℕ → Branch → Bool
is_branch_within count branch = is_within count branch.when && are_within count branch.columns

-- the field of a fold is one of so many; a count has none
abbrev pub is_fold_within : ℕ → Agg → Bool
is_fold_within count (agg.Sum i) = nat_lt i count
is_fold_within count (agg.Min i empty) = nat_lt i count
is_fold_within count (agg.Max i empty) = nat_lt i count
is_fold_within count agg.Count = true

-- no field number of an op is past the fields that it is of, and keys that belong together have one length; `home_key` is
-- the key of the delta iteration in whose body the op stands
abbrev pub has_fields : (inputs : List Fields) → (home_key : List ℕ) → Op → Bool
has_fields inputs home_key (op.Source fields delimiter) = true
has_fields inputs home_key (op.Map input columns) = are_within (field_count inputs 0) columns
has_fields inputs home_key (op.Filter input test) = is_within (field_count inputs 0) test
has_fields inputs home_key (op.FlatMap input rows) = list_all (is_branch_within (field_count inputs 0)) rows
has_fields inputs home_key (op.Union names) = true
has_fields inputs home_key (op.Distinct input) = true
has_fields inputs home_key (op.Group input key aggs combine) =
    is_key_within (field_count inputs 0) key && list_all (is_fold_within (field_count inputs 0)) aggs
has_fields inputs home_key (op.Top input key order count) =
    is_key_within (field_count inputs 0) key && has_order (input_at inputs 0) order
has_fields inputs home_key (op.Join left right left_key right_key columns kind left_default right_default) =
    is_key_within (field_count inputs 0) left_key && is_key_within (field_count inputs 1) right_key
    && are_as_long left_key right_key && are_within (field_count inputs 0 + field_count inputs 1) columns
has_fields inputs home_key (op.Cogroup left right left_key right_key left_aggs right_aggs) =
    is_key_within (field_count inputs 0) left_key && is_key_within (field_count inputs 1) right_key
    && are_as_long left_key right_key
    && list_all (is_fold_within (field_count inputs 0)) left_aggs && list_all (is_fold_within (field_count inputs 1)) right_aggs
has_fields inputs home_key (op.Bulk init bind most next until) = true
has_fields inputs home_key (op.Delta solution workset bind key order merge most delta next) =
    is_key_within (field_count inputs 0) key && has_order (input_at inputs 0) order
has_fields inputs home_key (op.Probe input key columns) =
    is_key_within (field_count inputs 0) key && are_as_long key home_key
    && are_within (field_count inputs 0 + field_count inputs 1) columns

-- Types

-- columns have types over fields
abbrev pub have_types : Fields → List Expr → Bool
have_types fields es = is_some (types_of fields es)

-- the types of each branch's columns, where all have some
abbrev pub branch_columns : Fields → List Branch → Option (List Fields)
branch_columns fields [] = Some []
branch_columns fields (b ∷ bs) = first_and_others (types_of fields b.columns) (branch_columns fields bs)

-- each expression of an op has a type, tests are of a Bool, folds of a Long, types that are widened or compared are of one
-- kind, and defaults fit their sides
abbrev pub has_types : (inputs : List Fields) → (home_key : List ℕ) → Op → Bool
has_types inputs home_key (op.Source fields delimiter) = true
has_types inputs home_key (op.Map input columns) = have_types (input_at inputs 0) columns
has_types inputs home_key (op.Filter input test) = is_test (input_at inputs 0) test
has_types inputs home_key (op.FlatMap input rows) =
    list_all (λ (b : Branch). is_test (input_at inputs 0) b.when) rows
    && is_some (branch_columns (input_at inputs 0) rows >>= all_widened)
has_types inputs home_key (op.Union names) = is_some (all_widened inputs)
has_types inputs home_key (op.Distinct input) = true
has_types inputs home_key (op.Group input key aggs combine) = list_all (is_fold (input_at inputs 0)) aggs
has_types inputs home_key (op.Top input key order count) = true
has_types inputs home_key (op.Join left right left_key right_key columns kind left_default right_default) =
    is_some (keys_type (input_at inputs 0) (input_at inputs 1) left_key right_key)
    && have_types (input_at inputs 0 ++ input_at inputs 1) columns
    && default_fits (input_at inputs 0) left_default && default_fits (input_at inputs 1) right_default
has_types inputs home_key (op.Cogroup left right left_key right_key left_aggs right_aggs) =
    is_some (keys_type (input_at inputs 0) (input_at inputs 1) left_key right_key)
    && list_all (is_fold (input_at inputs 0)) left_aggs && list_all (is_fold (input_at inputs 1)) right_aggs
has_types inputs home_key (op.Bulk init bind most next until) = true
has_types inputs home_key (op.Delta solution workset bind key order merge most delta next) = true
has_types inputs home_key (op.Probe input key columns) =
    is_some (keys_type (input_at inputs 0) (input_at inputs 1) key home_key)
    && have_types (input_at inputs 0 ++ input_at inputs 1) columns

-- The first code

-- fields that are a schema's; there are none where a part of an expression is wider than a text
abbrev pub in_width : Option Fields → Result Fields PlanCode
in_width None = Err code.BadWidth
in_width (Some fields) = if is_schema fields then Ok fields else Err code.BadWidth

-- the schema of an op whose field numbers are right, as far as it has types
abbrev pub in_types : Bool → Option Fields → Result Fields PlanCode
in_types false found = Err code.BadTypes
in_types true found = in_width found

-- the schema of an op, as far as its field numbers are right, and then its types
abbrev pub in_fields : Bool → Bool → Option Fields → Result Fields PlanCode
in_fields false types found = Err code.BadField
in_fields true types found = in_types types found

-- The schema of an op's rows, or the first code that refuses it.
abbrev pub typed_op : (inputs : List Fields) → (home_key : List ℕ) → Op → Result Fields PlanCode
typed_op inputs home_key o = in_fields (has_fields inputs home_key o) (has_types inputs home_key o) (op_type inputs home_key o)
