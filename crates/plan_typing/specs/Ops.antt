use Rattle.std.specs.Prelude.{ℕ, true, List, [], ◌∷◌, Result}
use Rattle.flow_types.specs.declared.agg.Agg.{Agg}
use Rattle.flow_types.specs.declared.expr.Expr.{Expr}
use Rattle.flow_types.specs.declared.order_item.OrderItem.{OrderItem}
use Rattle.flow_types.specs.Types.{Fields}
use Rattle.flow_model.specs.declared.op.Branch.{Branch}
use Rattle.flow_model.specs.declared.op.Op.TheVariants as op
use Rattle.flow_model.specs.declared.plan_code.PlanCode.{PlanCode}
use Rattle.plan_typing.specs.Typing.{typed_op}

-- `typed_op` of each op that takes one input, over the fields of that input. What an op has beside the arguments here, as
-- the number of its input, is nothing to its types.

abbrev pub typed_map : Fields → List Expr → Result Fields PlanCode
typed_map fields columns = typed_op (fields ∷ []) [] (op.Map 0 columns)

abbrev pub typed_filter : Fields → Expr → Result Fields PlanCode
typed_filter fields test = typed_op (fields ∷ []) [] (op.Filter 0 test)

abbrev pub typed_flat_map : Fields → List Branch → Result Fields PlanCode
typed_flat_map fields rows = typed_op (fields ∷ []) [] (op.FlatMap 0 rows)

abbrev pub typed_union : List Fields → Result Fields PlanCode
typed_union inputs = typed_op inputs [] (op.Union [])

abbrev pub typed_group : Fields → List ℕ → List Agg → Result Fields PlanCode
typed_group fields key aggs = typed_op (fields ∷ []) [] (op.Group 0 key aggs true)

-- rows that are ranked by a key and an order, as a top's
abbrev pub typed_ranked : Fields → List ℕ → List OrderItem → Result Fields PlanCode
typed_ranked fields key order = typed_op (fields ∷ []) [] (op.Top 0 key order 1)
