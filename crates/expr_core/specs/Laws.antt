use Rattle.std.specs.Prelude.{◌≡◌, ◌≤◌, IsTrue, Some, List, map}
use Rattle.std.specs.List.{AllZip}
use Rattle.flow_types.specs.Limits.{record_limit}
use Rattle.flow_types.specs.declared.expr.Expr.{Expr}
use Rattle.flow_types.specs.Types.{Fields, is_schema}
use Rattle.flow_types.specs.Tuples.{Tuple}
use Rattle.flow_types.specs.Records.{form, IsTupleOf, IsRecordOf}
use Rattle.flow_types.specs.Expressions.{val}
use Rattle.flow_types.specs.ExprTypes.{type_of}
use Rattle.flow_types.specs.LawsOfTypes.{HasType}
use Rattle.expr_core.specs.Needs.{widest_of}

-- Of columns whose types are those of a schema the widest record is no wider than a record may be. Where their
-- literals are values too, the record of their values is one of that schema.
pub record ColumnsOfASchema : Type 0 where
  pub small : (fields : Fields) (columns : List Expr) (types : Fields) → AllZip (λ e f. type_of fields e ≡ Some f) columns types → IsTrue (is_schema types) → widest_of fields columns ≤ record_limit
  pub whole : (fields : Fields) (t : Tuple) (columns : List Expr) (types : Fields) → IsTupleOf fields t → AllZip (HasType fields) columns types → IsRecordOf types (map (λ e. val t e) columns) (form (map (λ e. val t e) columns))
