-- What is done with rows one by one, as in Flink's DataSet API.
use Rattle.std.specs.Prelude.{Bool, true, ◌&&◌, List, ◌≤◌, ℕ, All, [], ◌∷◌, length, nat_le, Option, Some, None}
use Rattle.std.specs.List.{list_all}
use Rattle.flow_types.specs.Limits.{record_limit}
use Rattle.flow_types.specs.declared.expr.Expr.{Expr}
use Rattle.flow_types.specs.Tuples.{Tuple}
use Rattle.flow_types.specs.Types.{Fields}
use Rattle.flow_types.specs.Records.{IsTupleOf, form}
use Rattle.flow_types.specs.ExprTypes.{typing_of, is_limited}
use Rattle.flow_model.specs.declared.op.Branch.{Branch}
use Rattle.flow_model.specs.declared.op.Op.{Op}
use Rattle.flow_model.specs.declared.op.Op.TheVariants as op
use Rattle.flow_model.specs.declared.plan.Node.{Node}
use Rattle.flow_model.specs.Env.{Tuples}
use Rattle.flow_model.specs.Rows.{map_rows, filter_rows, flat_map_rows}
use Rattle.flow_model.specs.Schemas.{input_at, is_test}
use Rattle.expr_core.specs.Needs.{are_typed, widest_of}
use Rattle.row_pipe.specs.declared.work.Work.{Work}
use Rattle.row_pipe.specs.declared.work.Work.TheVariants as work

-- what an op does with each row, where it goes row by row
abbrev pub work_of : Op → Option Work
work_of (op.Map input columns) = Some (work.Map columns)
work_of (op.Filter input test) = Some (work.Filter test)
work_of (op.FlatMap input rows) = Some (work.FlatMap rows)
work_of (op.Union names) = Some work.Pass
work_of _ = None

-- the rows that are given of rows: those of a map, a filter or a flat map, or the rows themselves
abbrev pub piped : Work → Tuples → Tuples
piped work.Pass rows = rows
piped (work.Map columns) rows = map_rows columns rows
piped (work.Filter test) rows = filter_rows test rows
piped (work.FlatMap branches) rows = flat_map_rows branches rows

-- The schema of the rows that an op takes one by one: that of its input. The rows of all inputs of a union are of the
-- union's own schema.
abbrev pub taken_by : Op → (inputs : List Fields) → (own : Fields) → Fields
taken_by (op.Union names) inputs own = own
taken_by _ inputs own = input_at inputs 0

-- the schema of the rows that a node takes one by one
abbrev pub taken_of : Node → Fields
taken_of node = taken_by node.op node.inputs node.schema

-- Columns have types over a schema and are within an expression's limits, and the record of their values is no wider
-- than a record may be.
abbrev pub are_columns_over : Fields → List Expr → Bool
are_columns_over fields columns = are_typed fields columns && nat_le (widest_of fields columns) record_limit

-- a test is of a Bool, no part of it is wider than a text, and it is within an expression's limits
abbrev pub is_test_over : Fields → Expr → Bool
is_test_over fields test = is_test fields test && ((typing_of fields test).narrow && is_limited test)

-- a branch's test and its columns are such
abbrev pub is_branch_over : Fields → Branch → Bool
is_branch_over fields branch = is_test_over fields branch.when && are_columns_over fields branch.columns

-- all expressions are typed over the schema of the rows
abbrev pub is_work_over : Fields → Work → Bool
is_work_over fields work.Pass = true
is_work_over fields (work.Map columns) = are_columns_over fields columns
is_work_over fields (work.Filter test) = is_test_over fields test
is_work_over fields (work.FlatMap branches) = list_all (is_branch_over fields) branches

-- Whatever row of the schema stands there, no record of a row that is given of it has more bytes than this.
abbrev pub GivesNarrow : (fields : Fields) (w : Work) (most : ℕ) → Type 0
GivesNarrow fields w most = (t : Tuple) → IsTupleOf fields t → All (λ u. length (form u) ≤ most) (piped w (t ∷ []))
