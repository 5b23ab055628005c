use Rattle.std.specs.Prelude.{◌≡◌, ℕ, Bool, true, ◌&&◌, List, All, IsTrue, Option, Some, None}
use Rattle.std.specs.List.{list_all, flat_map, AllZip}
use Rattle.flow_types.specs.declared.agg.Agg.{Agg}
use Rattle.flow_types.specs.declared.expr.Expr.{Expr}
use Rattle.flow_types.specs.declared.order_item.OrderItem.{OrderItem}
use Rattle.flow_types.specs.Values.{is_value}
use Rattle.flow_types.specs.Types.{Fields}
use Rattle.flow_types.specs.Tuples.{Tuple}
use Rattle.flow_types.specs.Records.{IsTupleOf}
use Rattle.flow_types.specs.ExprTypes.{◌>>=◌}
use Rattle.flow_types.specs.LawsOfTypes.{has_values}
use Rattle.flow_types.specs.LawsOfFolds.{states_long}
use Rattle.flow_model.specs.declared.op.Op.{Op}
use Rattle.flow_model.specs.declared.op.Op.TheVariants as op
use Rattle.flow_model.specs.declared.op.Branch.{Branch}
use Rattle.flow_model.specs.declared.op.JoinKind.{JoinKind}
use Rattle.flow_model.specs.declared.op.MergeRule.{MergeRule}
use Rattle.flow_model.specs.Env.{Tuples}
use Rattle.flow_model.specs.Rows.{map_rows, filter_rows, flat_map_rows, distinct_rows, group_rows, top_rows, cogroup_rows, join_rows}
use Rattle.flow_model.specs.Solutions.{Solution, chosen, merged, probe_rows}
use Rattle.flow_model.specs.Schemas.{columns_type, tested, branch_types, all_widened, group_type, ranked, join_type, cogroup_type}
use Rattle.flow_model.specs.Rules.{has_defaults}

-- The law of schemas, operation by operation: of rows of its inputs' schemas an operation that has a schema gives rows
-- of that schema.

-- rows are tuples of a schema
abbrev pub AreTuplesOf : Fields → Tuples → Type 0
AreTuplesOf fields rows = All (IsTupleOf fields) rows

-- the literals of columns are values that a field can hold
abbrev pub have_values : List Expr → Bool
have_values columns = list_all has_values columns

-- the literals of a branch are values that a field can hold
abbrev pub branch_has_values : Branch → Bool
branch_has_values branch = has_values branch.when && have_values branch.columns

-- a default, where it is there, is of values that a field can hold
abbrev pub default_has_values : Option Tuple → Bool
default_has_values None = true
default_has_values (Some t) = list_all is_value t

-- What an op states is of values that a field can hold: its literals, the numbers of its folds over no rows, and its
-- defaults. It is so of each op in memory, where each is a `Value` or an `i64`, as `op_states_values` shows.
abbrev pub states_values : Op → Bool
states_values (op.Source fields delimiter) = true
states_values (op.Map input columns) = have_values columns
states_values (op.Filter input test) = has_values test
states_values (op.FlatMap input rows) = list_all branch_has_values rows
states_values (op.Union names) = true
states_values (op.Distinct input) = true
states_values (op.Group input key aggs combine) = list_all states_long aggs
states_values (op.Top input key order count) = true
states_values (op.Join left right left_key right_key columns kind left_default right_default) =
    have_values columns && default_has_values left_default && default_has_values right_default
states_values (op.Cogroup left right left_key right_key left_aggs right_aggs) = list_all states_long left_aggs && list_all states_long right_aggs
states_values (op.Bulk init bind most next until) = true
states_values (op.Delta solution workset bind key order merge most delta next) = true
states_values (op.Probe input key columns) = have_values columns

-- Operations over one list of rows, or over several of a union.
pub record OpsFit : Type 0 where
  pub mapped :
      (fields types : Fields) (columns : List Expr) (rows : Tuples) →
      columns_type fields columns ≡ Some types → IsTrue (have_values columns) →
      AreTuplesOf fields rows → AreTuplesOf types (map_rows columns rows)
  pub filtered :
      (fields types : Fields) (test : Expr) (rows : Tuples) →
      tested fields test ≡ Some types → AreTuplesOf fields rows → AreTuplesOf types (filter_rows test rows)
  pub flat_mapped :
      (fields types : Fields) (branches : List Branch) (rows : Tuples) →
      (branch_types fields branches >>= all_widened) ≡ Some types → IsTrue (list_all branch_has_values branches) →
      AreTuplesOf fields rows → AreTuplesOf types (flat_map_rows branches rows)
  pub united :
      (schemas : List Fields) (types : Fields) (lists : List Tuples) →
      all_widened schemas ≡ Some types → AllZip AreTuplesOf schemas lists → AreTuplesOf types (flat_map (λ rows. rows) lists)
  pub distinct : (fields : Fields) (rows : Tuples) → AreTuplesOf fields rows → AreTuplesOf fields (distinct_rows rows)
  pub grouped :
      (fields types : Fields) (key : List ℕ) (aggs : List Agg) (rows : Tuples) →
      group_type fields key aggs ≡ Some types → IsTrue (list_all states_long aggs) →
      AreTuplesOf fields rows → AreTuplesOf types (group_rows key aggs rows)
  pub topped :
      (fields types : Fields) (key : List ℕ) (order : List OrderItem) (count : ℕ) (rows : Tuples) →
      ranked fields key order ≡ Some types → AreTuplesOf fields rows → AreTuplesOf types (top_rows key order count rows)
  pub choice :
      (fields : Fields) (key : List ℕ) (order : List OrderItem) (rows : Tuples) →
      AreTuplesOf fields rows → AreTuplesOf fields (chosen key order rows)

-- Operations over two lists of rows. A join's defaults are those that its kind wants.
pub record PairsFit : Type 0 where
  pub joined :
      (lefts rights types : Fields) (kind : JoinKind) (left_key right_key : List ℕ) (columns : List Expr)
      (left_default right_default : Option Tuple) (ls rs : Tuples) →
      join_type lefts rights left_key right_key columns left_default right_default ≡ Some types →
      IsTrue (has_defaults kind left_default right_default) →
      IsTrue (have_values columns && default_has_values left_default && default_has_values right_default) →
      AreTuplesOf lefts ls → AreTuplesOf rights rs →
      AreTuplesOf types (join_rows kind left_key right_key columns left_default right_default ls rs)
  pub cogrouped :
      (lefts rights types : Fields) (left_key right_key : List ℕ) (left_aggs right_aggs : List Agg) (ls rs : Tuples) →
      cogroup_type lefts rights left_key right_key left_aggs right_aggs ≡ Some types →
      IsTrue (list_all states_long left_aggs && list_all states_long right_aggs) →
      AreTuplesOf lefts ls → AreTuplesOf rights rs →
      AreTuplesOf types (cogroup_rows left_key right_key left_aggs right_aggs ls rs)
  pub probed :
      (lefts rights types : Fields) (held : Solution) (key : List ℕ) (columns : List Expr) (rows : Tuples) →
      join_type lefts rights key held.key columns None None ≡ Some types → IsTrue (have_values columns) →
      AreTuplesOf lefts rows → AreTuplesOf rights held.entries → AreTuplesOf types (probe_rows held key columns rows)
  pub put_together :
      (fields : Fields) (key : List ℕ) (order : List OrderItem) (merge : MergeRule) (old rows : Tuples) →
      AreTuplesOf fields old → AreTuplesOf fields rows → AreTuplesOf fields (merged key order merge old rows)
