use Rattle.std.specs.Prelude.{[]}
use Rattle.flow_model.specs.declared.op.Op.{Op}
use Rattle.flow_model.specs.declared.op.Op.TheVariants as op
use Rattle.flow_model.specs.Env.{Tuples}
use Rattle.flow_model.specs.Rows.{group_rows, top_rows, join_rows, cogroup_rows}
use Rattle.flow_model.specs.Algebra.{Env, rows_at}

-- The algebra's rows of some ops alone, of what was evaluated before; none of another op.

-- the rows of a group or a top
abbrev pub grouped_rows : Env → Op → Tuples
grouped_rows env (op.Group input key aggs combine) = group_rows key aggs (rows_at env input)
grouped_rows env (op.Top input key order count) = top_rows key order count (rows_at env input)
grouped_rows env _ = []

-- the rows of a join
abbrev pub joined_rows : Env → Op → Tuples
joined_rows env (op.Join left right left_key right_key columns kind left_default right_default) =
    join_rows kind left_key right_key columns left_default right_default (rows_at env left) (rows_at env right)
joined_rows env _ = []

-- the rows of a cogroup
abbrev pub cogrouped_rows : Env → Op → Tuples
cogrouped_rows env (op.Cogroup left right left_key right_key left_aggs right_aggs) =
    cogroup_rows left_key right_key left_aggs right_aggs (rows_at env left) (rows_at env right)
cogrouped_rows env _ = []
