use Rattle.std.specs.Prelude.{ℕ, Bool, true, false, is_some, List, codes, Option, Ok, Err}
use Rattle.flow_types.specs.declared.expr.Expr.{Expr}
use Rattle.flow_types.specs.Tuples.{Tuple}
use Rattle.serde_json.specs.Data.{Data}
use Rattle.serde_json.specs.Find.{get}
use Rattle.flow_model.specs.declared.op.JoinKind.{JoinKind}
use Rattle.flow_model.specs.Rows.{keeps_left, keeps_right}
use Rattle.plan_json.specs.declared.reading.Flaw.TheVariants as flaw
use Rattle.plan_json.specs.declared.rows.OpName.{OpName}
use Rattle.plan_json.specs.declared.rows.OpName.TheVariants as op_name
use Rattle.plan_json.specs.Json.{◌>>=◌, items_in}
use Rattle.plan_json.specs.Reading.{Reading, from_one, from_two, from_three, from_four, from_five, from_six, from_seven, from_nine}
use Rattle.plan_json.specs.Names.{name_in, optional_name_in, names_in}
use Rattle.plan_json.specs.Numbers.{count_in, key_in}
use Rattle.plan_json.specs.Forms.{fields_in, delimiter_in, combine_in, aggs_in, order_in, kind_in, merge_in}
use Rattle.plan_exprs.specs.Exprs.{expr_in, columns_in, default_in}
use Rattle.plan_exprs.specs.Branches.{branches_in}
use Rattle.plan_text.specs.declared.tree.TreeOp.{TreeOp}
use Rattle.plan_text.specs.declared.tree.TreeOp.TheVariants as op

-- The ops of a plan, member by member. Each member's form gives its value or its flaw, and of all flaws
-- the first is told.

-- what is read where a form holds
abbrev pub where_formed : {A : Type 0} → Bool → Reading A → Reading A
where_formed true r = r
where_formed false r = Err flaw.Node

-- a body that is a list; its nodes are read for themselves
abbrev pub has_body : Data → Bool
has_body d = is_some (get (codes "body") d >>= items_in)

-- a join with its kind before its other members
abbrev pub join_op : JoinKind → List ℕ → List ℕ → List ℕ → List ℕ → List Expr → Option Tuple → Option Tuple → TreeOp
join_op kind left right left_key right_key columns left_default right_default = op.Join left right left_key right_key columns kind left_default right_default

-- a join of a kind
abbrev pub join_of : Data → Reading JoinKind → Reading TreeOp
join_of d (Err f) = Err f
join_of d (Ok kind) =
    from_seven (join_op kind) (name_in (get (codes "left") d)) (name_in (get (codes "right") d))
    (key_in 1 (get (codes "left_key") d)) (key_in 1 (get (codes "right_key") d))
    (columns_in (get (codes "columns") d))
    (default_in (keeps_right kind) (get (codes "left_default") d)) (default_in (keeps_left kind) (get (codes "right_default") d))

-- the op of a node, by its op's row
abbrev pub op_in : OpName → Data → Reading TreeOp
op_in op_name.Source d = from_two op.Source (fields_in (get (codes "fields") d)) (delimiter_in (get (codes "delimiter") d))
op_in op_name.Map d = from_two op.Map (name_in (get (codes "input") d)) (columns_in (get (codes "columns") d))
op_in op_name.Filter d = from_two op.Filter (name_in (get (codes "input") d)) (expr_in (get (codes "test") d))
op_in op_name.FlatMap d = from_two op.FlatMap (name_in (get (codes "input") d)) (branches_in (get (codes "rows") d))
op_in op_name.Union d = from_one op.Union (names_in (get (codes "inputs") d))
op_in op_name.Distinct d = from_one op.Distinct (name_in (get (codes "input") d))
op_in op_name.Group d =
    from_four op.Group (name_in (get (codes "input") d)) (key_in 0 (get (codes "key") d))
    (aggs_in (get (codes "aggs") d)) (combine_in (get (codes "combine") d))
op_in op_name.Top d =
    from_four op.Top (name_in (get (codes "input") d)) (key_in 0 (get (codes "key") d))
    (order_in (get (codes "order") d)) (count_in (get (codes "count") d))
op_in op_name.Join d = join_of d (kind_in (get (codes "kind") d))
op_in op_name.Cogroup d =
    from_six op.Cogroup (name_in (get (codes "left") d)) (name_in (get (codes "right") d))
    (key_in 1 (get (codes "left_key") d)) (key_in 1 (get (codes "right_key") d))
    (aggs_in (get (codes "left_aggs") d)) (aggs_in (get (codes "right_aggs") d))
op_in op_name.Bulk d =
    where_formed (has_body d) (from_five op.Bulk
    (name_in (get (codes "init") d)) (name_in (get (codes "bind") d)) (count_in (get (codes "max") d))
    (name_in (get (codes "next") d)) (optional_name_in (get (codes "until") d)))
op_in op_name.Delta d =
    where_formed (has_body d) (from_nine op.Delta
    (name_in (get (codes "solution") d)) (name_in (get (codes "workset") d)) (name_in (get (codes "bind") d))
    (key_in 1 (get (codes "key") d)) (order_in (get (codes "order") d)) (merge_in (get (codes "merge") d))
    (count_in (get (codes "max") d)) (name_in (get (codes "delta") d)) (name_in (get (codes "next") d)))
op_in op_name.Probe d =
    from_three op.Probe (name_in (get (codes "input") d)) (key_in 1 (get (codes "key") d)) (columns_in (get (codes "columns") d))
