use Rattle.std.specs.Prelude.{ℕ, Bool, true, false, List, [], ◌∷◌, ◌++◌, map, filter, take, if◌then◌else◌, Option, Some, None}
use Rattle.std.specs.List.{flat_map, dedup}
use Rattle.flow_types.specs.declared.agg.Agg.{Agg}
use Rattle.flow_types.specs.declared.expr.Expr.{Expr}
use Rattle.flow_types.specs.declared.order_item.OrderItem.{OrderItem}
use Rattle.flow_types.specs.declared.value.Value.TheVariants as value
use Rattle.flow_types.specs.Values.{flag_of}
use Rattle.flow_types.specs.Tuples.{Tuple, tuple_eq, key_of, rank_cmp}
use Rattle.flow_types.specs.Bags.{ordered, sort_by}
use Rattle.flow_types.specs.Expressions.{val}
use Rattle.flow_types.specs.Folds.{fold_of}
use Rattle.flow_model.specs.declared.op.Branch.{Branch}
use Rattle.flow_model.specs.declared.op.JoinKind.{JoinKind}
use Rattle.flow_model.specs.declared.op.JoinKind.TheVariants as kind
use Rattle.flow_model.specs.Env.{Tuples}

-- The operations on datasets, as in Flink's DataSet API. A list of tuples stands for a bag. Where an operation goes
-- by keys, it takes the keys in ascending order, so that its list depends on the bags of its inputs alone.

-- the values of columns at a tuple
abbrev pub columns_of : List Expr → Tuple → Tuple
columns_of columns t = map (λ e. val t e) columns

-- map: the columns of each row, in order
abbrev pub map_rows : List Expr → Tuples → Tuples
map_rows columns rows = map (columns_of columns) rows

-- filter: the rows whose test is true, in order
abbrev pub filter_rows : Expr → Tuples → Tuples
filter_rows test rows = filter (λ t. flag_of (val t test)) rows

-- the columns of each branch whose `when` is true of a row
abbrev pub branch_rows : List Branch → Tuple → Tuples
branch_rows branches t = map (λ (b : Branch). columns_of b.columns t) (filter (λ (b : Branch). flag_of (val t b.when)) branches)

-- flat map: for each row in order, the rows of its branches
abbrev pub flat_map_rows : List Branch → Tuples → Tuples
flat_map_rows branches rows = flat_map (branch_rows branches) rows

-- a row has a key: its values at the key's field numbers are these
abbrev pub has_key : List ℕ → Tuple → Tuple → Bool
has_key numbers key t = tuple_eq (key_of numbers t) key

-- the rows that have a key, in order
abbrev pub with_key : List ℕ → Tuple → Tuples → Tuples
with_key numbers key rows = filter (has_key numbers key) rows

-- a list's tuples in ascending order, each once
abbrev pub each_once : Tuples → Tuples
each_once rows = dedup tuple_eq (ordered rows)

-- the keys that rows have, in ascending order, each once
abbrev pub keys_in : List ℕ → Tuples → Tuples
keys_in numbers rows = each_once (map (key_of numbers) rows)

-- distinct: each row once
abbrev pub distinct_rows : Tuples → Tuples
distinct_rows rows = each_once rows

-- the values of folds over rows
abbrev pub folds_of : List Agg → Tuples → Tuple
folds_of aggs rows = map (λ a. value.Long (fold_of a rows)) aggs

-- group: for each key its values, and then the folds of the rows that have it
abbrev pub group_rows : List ℕ → List Agg → Tuples → Tuples
group_rows key aggs rows = map (λ k. k ++ folds_of aggs (with_key key k rows)) (keys_in key rows)

-- top: for each key, the first rows that have it, by rank, at most `count` of them
abbrev pub top_rows : List ℕ → List OrderItem → ℕ → Tuples → Tuples
top_rows key order count rows = flat_map (λ k. take count (sort_by (rank_cmp order) (with_key key k rows))) (keys_in key rows)

-- the keys that rows of either side have, in ascending order, each once
abbrev pub keys_of_both : List ℕ → List ℕ → Tuples → Tuples → Tuples
keys_of_both left_key right_key left right = each_once (map (key_of left_key) left ++ map (key_of right_key) right)

-- cogroup: for each key of either side its values, the folds of the left rows that have it, and those of the right rows
abbrev pub cogroup_rows : List ℕ → List ℕ → List Agg → List Agg → Tuples → Tuples → Tuples
cogroup_rows left_key right_key left_aggs right_aggs left right =
    map (λ k. k ++ (folds_of left_aggs (with_key left_key k left) ++ folds_of right_aggs (with_key right_key k right)))
    (keys_of_both left_key right_key left right)

-- the rows of the other side that have a row's key
abbrev pub partners : List ℕ → List ℕ → Tuples → Tuple → Tuples
partners own_key other_key others t = with_key other_key (key_of own_key t) others

-- inner join: for each left row, for each right row with its key, the columns over the left row followed by the right
abbrev pub inner_rows : List ℕ → List ℕ → List Expr → Tuples → Tuples → Tuples
inner_rows left_key right_key columns left right =
    flat_map (λ l. map (λ r. columns_of columns (l ++ r)) (partners left_key right_key right l)) left

-- no row, as a test
abbrev pub is_nothing : Tuples → Bool
is_nothing [] = true
is_nothing (t ∷ rows) = false

-- the rows without a partner on the other side, in order
abbrev pub alone : List ℕ → List ℕ → Tuples → Tuples → Tuples
alone own_key other_key others rows = filter (λ t. is_nothing (partners own_key other_key others t)) rows

-- the left rows without a partner, each followed by the right side's default
abbrev pub left_alone : List ℕ → List ℕ → List Expr → Tuple → Tuples → Tuples → Tuples
left_alone left_key right_key columns default left right =
    map (λ l. columns_of columns (l ++ default)) (alone left_key right_key right left)

-- the left side's default, followed by each of the right rows without a partner
abbrev pub right_alone : List ℕ → List ℕ → List Expr → Tuple → Tuples → Tuples → Tuples
right_alone left_key right_key columns default left right =
    map (λ r. columns_of columns (default ++ r)) (alone right_key left_key left right)

-- a default that is there; the empty tuple where there is none
abbrev pub default_row : Option Tuple → Tuple
default_row None = []
default_row (Some t) = t

-- a join that keeps the left rows without a partner
abbrev pub keeps_left : JoinKind → Bool
keeps_left kind.Inner = false
keeps_left kind.Left = true
keeps_left kind.Right = false
keeps_left kind.Full = true

-- a join that keeps the right rows without a partner
abbrev pub keeps_right : JoinKind → Bool
keeps_right kind.Inner = false
keeps_right kind.Left = false
keeps_right kind.Right = true
keeps_right kind.Full = true

-- rows, where they are kept
abbrev pub rows_if : Bool → Tuples → Tuples
rows_if true rows = rows
rows_if false rows = []

-- join: the pairs with one key, and then by its kind the left rows and the right rows without a partner, beside the
-- other side's default
abbrev pub join_rows : JoinKind → List ℕ → List ℕ → List Expr → Option Tuple → Option Tuple → Tuples → Tuples → Tuples
join_rows kind left_key right_key columns left_default right_default left right =
    inner_rows left_key right_key columns left right
    ++ (rows_if (keeps_left kind) (left_alone left_key right_key columns (default_row right_default) left right)
    ++ rows_if (keeps_right kind) (right_alone left_key right_key columns (default_row left_default) left right))
