use Rattle.std.specs.Prelude.{ℕ, List, [], map, option_map}
use Rattle.flow_model.specs.declared.op.Op.{Op}
use Rattle.flow_model.specs.declared.op.Op.TheVariants as op
use Rattle.flow_model.specs.declared.plan.Node.{Node}
use Rattle.plan_text.specs.declared.tree.TreeOp.{TreeOp}
use Rattle.plan_text.specs.declared.tree.TreeOp.TheVariants as tree
use Rattle.plan_text.specs.declared.tree.TreeNode.{TreeNode}
use Rattle.plan_check.specs.Places.{Place, is_seen_at, is_seen_at_end, number_of}

-- An op with numbers in place of the names that it refers to: `start` gives those of the names where it stands, `end`
-- those of the names at its body's end.
abbrev pub numbered : (start end : List ℕ → ℕ) → TreeOp → Op
numbered start end (tree.Source fields delimiter) = op.Source fields delimiter
numbered start end (tree.Map input columns) = op.Map (start input) columns
numbered start end (tree.Filter input test) = op.Filter (start input) test
numbered start end (tree.FlatMap input rows) = op.FlatMap (start input) rows
numbered start end (tree.Union names) = op.Union (map start names)
numbered start end (tree.Distinct input) = op.Distinct (start input)
numbered start end (tree.Group input key aggs combine) = op.Group (start input) key aggs combine
numbered start end (tree.Top input key order count) = op.Top (start input) key order count
numbered start end (tree.Join left right left_key right_key columns kind left_default right_default) =
    op.Join (start left) (start right) left_key right_key columns kind left_default right_default
numbered start end (tree.Cogroup left right left_key right_key left_aggs right_aggs) =
    op.Cogroup (start left) (start right) left_key right_key left_aggs right_aggs
numbered start end (tree.Bulk init bind most next until) = op.Bulk (start init) bind most (end next) (option_map end until)
numbered start end (tree.Delta solution workset bind key order merge most delta next) =
    op.Delta (start solution) (start workset) bind key order merge most (end delta) (end next)
numbered start end (tree.Probe input key columns) = op.Probe (start input) key columns

-- the op of a node of a plan with these names; a name that isn't visible becomes 0
abbrev pub op_of : List Place → TreeNode → Op
op_of ps node = numbered (number_of ps (is_seen_at node.number node.home)) (number_of ps (is_seen_at_end node.number)) node.op

-- a node without its schemas
abbrev pub bare_node : List Place → TreeNode → Node
bare_node ps node =
    record { number = node.number; name = node.name; home = node.home; op = op_of ps node; inputs = []; schema = [] }
