use Rattle.std.specs.Prelude.{◌≡◌, ℕ, ◌≤◌, List, length, Option}
use Rattle.std.specs.List.{flat_map}
use Rattle.flow_types.specs.declared.agg.Agg.{Agg}
use Rattle.flow_types.specs.declared.expr.Expr.{Expr}
use Rattle.flow_types.specs.declared.order_item.OrderItem.{OrderItem}
use Rattle.flow_types.specs.Tuples.{Tuple}
use Rattle.flow_types.specs.SameBags.{SameBag}
use Rattle.flow_model.specs.declared.op.Branch.{Branch}
use Rattle.flow_model.specs.declared.op.JoinKind.{JoinKind}
use Rattle.flow_model.specs.declared.op.MergeRule.{MergeRule}
use Rattle.flow_model.specs.Env.{Tuples}
use Rattle.flow_model.specs.Rows.{map_rows, filter_rows, flat_map_rows, each_once, keys_in, with_key, distinct_rows, group_rows, top_rows, cogroup_rows, join_rows}
use Rattle.flow_model.specs.Solutions.{Solution, chosen, merged, probe_rows}
use Rattle.flow_model.specs.Algebra.{Env, rows_at}

-- The law of bags, operation by operation: of the same bags each operation makes the same bag, and each one that
-- goes by keys makes one list.

-- under each number two lists of evaluated nodes have the same bag
abbrev pub HaveSameBags : Env → Env → Type 0
HaveSameBags env other = (n : ℕ) → SameBag (rows_at env n) (rows_at other n)

-- The operations whose list follows the order of their inputs make the same bag of the same bags. So does the step
-- from a solution's entries to the next ones.
pub record OpsKeepBags : Type 0 where
  pub mapped :
      (columns : List Expr) (xs ys : Tuples) → SameBag xs ys → SameBag (map_rows columns xs) (map_rows columns ys)
  pub filtered : (test : Expr) (xs ys : Tuples) → SameBag xs ys → SameBag (filter_rows test xs) (filter_rows test ys)
  pub flat_mapped :
      (branches : List Branch) (xs ys : Tuples) → SameBag xs ys →
      SameBag (flat_map_rows branches xs) (flat_map_rows branches ys)
  pub united :
      (names : List ℕ) (env other : Env) → HaveSameBags env other →
      SameBag (flat_map (rows_at env) names) (flat_map (rows_at other) names)
  pub joined :
      (kind : JoinKind) (left_key right_key : List ℕ) (columns : List Expr) (left_default right_default : Option Tuple)
      (ls ms rs ss : Tuples) → SameBag ls ms → SameBag rs ss →
      SameBag (join_rows kind left_key right_key columns left_default right_default ls rs)
      (join_rows kind left_key right_key columns left_default right_default ms ss)
  pub probed :
      (held other : Solution) (key : List ℕ) (columns : List Expr) (xs ys : Tuples) →
      held.key ≡ other.key → SameBag held.entries other.entries → SameBag xs ys →
      SameBag (probe_rows held key columns xs) (probe_rows other key columns ys)
  pub put_together :
      (key : List ℕ) (order : List OrderItem) (merge : MergeRule) (old others xs ys : Tuples) →
      SameBag old others → SameBag xs ys → SameBag (merged key order merge old xs) (merged key order merge others ys)

-- at most one row for each key, as the entries of a solution are
abbrev pub HasSingleKeys : List ℕ → Tuples → Type 0
HasSingleKeys key rows = (k : Tuple) → length (with_key key k rows) ≤ 1

-- The operations that go by keys make one list of the same bags, and so do their parts. A merge does where the old
-- entries are one list, or hold at most one row for each key: a key's old rows stay in their order where it has no
-- deltas.
pub record OpsGiveLists : Type 0 where
  pub once : (xs ys : Tuples) → SameBag xs ys → each_once xs ≡ each_once ys
  pub keys : (key : List ℕ) (xs ys : Tuples) → SameBag xs ys → keys_in key xs ≡ keys_in key ys
  pub distinct : (xs ys : Tuples) → SameBag xs ys → distinct_rows xs ≡ distinct_rows ys
  pub grouped :
      (key : List ℕ) (aggs : List Agg) (xs ys : Tuples) → SameBag xs ys → group_rows key aggs xs ≡ group_rows key aggs ys
  pub topped :
      (key : List ℕ) (order : List OrderItem) (count : ℕ) (xs ys : Tuples) → SameBag xs ys →
      top_rows key order count xs ≡ top_rows key order count ys
  pub cogrouped :
      (left_key right_key : List ℕ) (left_aggs right_aggs : List Agg) (ls ms rs ss : Tuples) →
      SameBag ls ms → SameBag rs ss →
      cogroup_rows left_key right_key left_aggs right_aggs ls rs ≡ cogroup_rows left_key right_key left_aggs right_aggs ms ss
  pub choice :
      (key : List ℕ) (order : List OrderItem) (xs ys : Tuples) → SameBag xs ys → chosen key order xs ≡ chosen key order ys
  pub merge :
      (key : List ℕ) (order : List OrderItem) (rule : MergeRule) (old xs ys : Tuples) → SameBag xs ys →
      merged key order rule old xs ≡ merged key order rule old ys
  pub merge_single :
      (key : List ℕ) (order : List OrderItem) (rule : MergeRule) (old others xs ys : Tuples) →
      HasSingleKeys key old → SameBag old others → SameBag xs ys →
      merged key order rule old xs ≡ merged key order rule others ys

-- The entries of a solution hold at most one row for each key: those that are chosen at first, and those after each
-- superstep's deltas.
pub record SolutionsHaveSingleKeys : Type 0 where
  pub choice : (key : List ℕ) (order : List OrderItem) (rows : Tuples) → HasSingleKeys key (chosen key order rows)
  pub merge :
      (key : List ℕ) (order : List OrderItem) (rule : MergeRule) (old deltas : Tuples) →
      HasSingleKeys key old → HasSingleKeys key (merged key order rule old deltas)
