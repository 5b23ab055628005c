-- An op that was read brings a bind name exactly where its word is that of an iteration.
use Rattle.std.proofs.Common.{◌≡◌, true, false, refl, Ok, Err}
use Rattle.std.specs.Prelude.{codes, Some}
use Rattle.serde_json.specs.Data.{Data}
use Rattle.serde_json.specs.Find.{get}
use Rattle.flow_model.specs.declared.op.JoinKind.{JoinKind}
use Rattle.flow_model.specs.Rows.{keeps_left, keeps_right}
use Rattle.plan_json.specs.declared.rows.OpName.{OpName}
use Rattle.plan_json.specs.declared.rows.OpName.TheVariants as op_name
use Rattle.plan_json.specs.Reading.{Reading}
use Rattle.plan_json.specs.Names.{name_in, optional_name_in, names_in}
use Rattle.plan_json.specs.Numbers.{count_in, key_in}
use Rattle.plan_json.specs.Forms.{fields_in, delimiter_in, combine_in, aggs_in, order_in, kind_in, merge_in}
use Rattle.plan_exprs.specs.Exprs.{expr_in, columns_in, default_in}
use Rattle.plan_exprs.specs.Branches.{branches_in}
use Rattle.plan_text.specs.declared.tree.TreeOp.{TreeOp}
use Rattle.plan_text.specs.declared.tree.TreeOp.TheVariants as tree
use Rattle.plan_text.specs.Ops.{has_body, join_op, join_of, op_in}
use Rattle.plan_text.specs.Nodes as nodes
use Rattle.plan_check.specs.Trees.{has_bind}
use Rattle.plan_check.proofs.Readings.{one_by, two_by, three_by, four_by, five_by, six_by, seven_by, nine_by}
use Rattle.plan_check.proofs.Formed.{where_ok}

join_binds : (d : Data) (kind : Reading JoinKind) (o : TreeOp) → join_of d kind ≡ Ok o → has_bind o ≡ false
join_binds d (Err f) o e = cc
join_binds d (Ok kind) o e =
    seven_by (λ o. has_bind o ≡ false) (join_op kind) (name_in (get (codes "left") d)) (name_in (get (codes "right") d)) (key_in 1 (get (codes "left_key") d)) (key_in 1 (get (codes "right_key") d))
    (columns_in (get (codes "columns") d)) (default_in (keeps_right kind) (get (codes "left_default") d)) (default_in (keeps_left kind) (get (codes "right_default") d)) o e
    (λ left right left_key right_key columns left_default right_default el er elk erk ec eld erd. refl)

pub op_binds : (n : OpName) (d : Data) (o : TreeOp) → op_in n d ≡ Ok o → has_bind o ≡ nodes.is_iteration (Some n)
op_binds op_name.Source d o e =
    two_by (λ o. has_bind o ≡ false) tree.Source (fields_in (get (codes "fields") d)) (delimiter_in (get (codes "delimiter") d)) o e (λ x0 x1 e0 e1. refl)
op_binds op_name.Map d o e =
    two_by (λ o. has_bind o ≡ false) tree.Map (name_in (get (codes "input") d)) (columns_in (get (codes "columns") d)) o e (λ x0 x1 e0 e1. refl)
op_binds op_name.Filter d o e =
    two_by (λ o. has_bind o ≡ false) tree.Filter (name_in (get (codes "input") d)) (expr_in (get (codes "test") d)) o e (λ x0 x1 e0 e1. refl)
op_binds op_name.FlatMap d o e =
    two_by (λ o. has_bind o ≡ false) tree.FlatMap (name_in (get (codes "input") d)) (branches_in (get (codes "rows") d)) o e (λ x0 x1 e0 e1. refl)
op_binds op_name.Union d o e =
    one_by (λ o. has_bind o ≡ false) tree.Union (names_in (get (codes "inputs") d)) o e (λ x0 e0. refl)
op_binds op_name.Distinct d o e =
    one_by (λ o. has_bind o ≡ false) tree.Distinct (name_in (get (codes "input") d)) o e (λ x0 e0. refl)
op_binds op_name.Group d o e =
    four_by (λ o. has_bind o ≡ false) tree.Group (name_in (get (codes "input") d)) (key_in 0 (get (codes "key") d)) (aggs_in (get (codes "aggs") d)) (combine_in (get (codes "combine") d)) o e (λ x0 x1 x2 x3 e0 e1 e2 e3. refl)
op_binds op_name.Top d o e =
    four_by (λ o. has_bind o ≡ false) tree.Top (name_in (get (codes "input") d)) (key_in 0 (get (codes "key") d)) (order_in (get (codes "order") d)) (count_in (get (codes "count") d)) o e (λ x0 x1 x2 x3 e0 e1 e2 e3. refl)
op_binds op_name.Join d o e = join_binds d (kind_in (get (codes "kind") d)) o e
op_binds op_name.Cogroup d o e =
    six_by (λ o. has_bind o ≡ false) tree.Cogroup (name_in (get (codes "left") d)) (name_in (get (codes "right") d)) (key_in 1 (get (codes "left_key") d)) (key_in 1 (get (codes "right_key") d)) (aggs_in (get (codes "left_aggs") d)) (aggs_in (get (codes "right_aggs") d)) o e (λ x0 x1 x2 x3 x4 x5 e0 e1 e2 e3 e4 e5. refl)
op_binds op_name.Bulk d o e =
    five_by (λ o. has_bind o ≡ true) tree.Bulk (name_in (get (codes "init") d)) (name_in (get (codes "bind") d)) (count_in (get (codes "max") d)) (name_in (get (codes "next") d)) (optional_name_in (get (codes "until") d)) o (where_ok (has_body d) _ o e) (λ x0 x1 x2 x3 x4 e0 e1 e2 e3 e4. refl)
op_binds op_name.Delta d o e =
    nine_by (λ o. has_bind o ≡ true) tree.Delta (name_in (get (codes "solution") d)) (name_in (get (codes "workset") d)) (name_in (get (codes "bind") d)) (key_in 1 (get (codes "key") d)) (order_in (get (codes "order") d)) (merge_in (get (codes "merge") d)) (count_in (get (codes "max") d)) (name_in (get (codes "delta") d)) (name_in (get (codes "next") d)) o (where_ok (has_body d) _ o e) (λ x0 x1 x2 x3 x4 x5 x6 x7 x8 e0 e1 e2 e3 e4 e5 e6 e7 e8. refl)
op_binds op_name.Probe d o e =
    three_by (λ o. has_bind o ≡ false) tree.Probe (name_in (get (codes "input") d)) (key_in 1 (get (codes "key") d)) (columns_in (get (codes "columns") d)) o e (λ x0 x1 x2 e0 e1 e2. refl)
