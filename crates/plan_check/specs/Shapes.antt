use Rattle.std.specs.Prelude.{Bool, true, false}
use Rattle.plan_text.specs.declared.tree.TreeOp.{TreeOp}
use Rattle.plan_text.specs.declared.tree.TreeOp.TheVariants as tree

-- Ops by what they work on, for the code that gives them numbers.

-- an op that takes the rows of its input one by one
abbrev pub is_by_row : TreeOp → Bool
is_by_row (tree.Map input columns) = true
is_by_row (tree.Filter input test) = true
is_by_row (tree.FlatMap input rows) = true
is_by_row (tree.Probe input key columns) = true
is_by_row _ = false

-- an op on the rows of each key, or on the rows that are alike
abbrev pub is_by_key : TreeOp → Bool
is_by_key (tree.Distinct input) = true
is_by_key (tree.Group input key aggs combine) = true
is_by_key (tree.Top input key order count) = true
is_by_key _ = false

-- an op that brings the rows of two sides together
abbrev pub is_pair : TreeOp → Bool
is_pair (tree.Join left right left_key right_key columns kind left_default right_default) = true
is_pair (tree.Cogroup left right left_key right_key left_aggs right_aggs) = true
is_pair _ = false
