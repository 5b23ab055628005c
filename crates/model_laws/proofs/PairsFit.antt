-- The law of schemas, operation by operation: operations over two lists of rows.
use Rattle.std.proofs.Common.{◌≡◌, ℕ, Bool, true, false, ◌&&◌, List, [], ◌∷◌, ◌++◌, map, subst, Option, Some, None}
use Rattle.std.specs.List.{list_all}
use Rattle.std.proofs.lemmas.Option.{option_and_then_some}
use Rattle.std.proofs.lemmas.List.Elements.{All-nil, All-append, All-filter, All-weaker}
use Rattle.flow_types.specs.declared.agg.Agg.{Agg}
use Rattle.flow_types.specs.declared.expr.Expr.{Expr}
use Rattle.flow_types.specs.declared.order_item.OrderItem.{OrderItem}
use Rattle.flow_types.specs.Types.{Fields}
use Rattle.flow_types.specs.Tuples.{Tuple, key_of}
use Rattle.flow_types.specs.Records.{IsTupleOf}
use Rattle.flow_types.specs.LawsOfFolds.{states_long}
use Rattle.flow_types.proofs.ValueLemmas.{both_true}
use Rattle.flow_types.proofs.ColumnLaws.{tuple-append}
use Rattle.flow_model.specs.declared.op.JoinKind.{JoinKind}
use Rattle.flow_model.specs.declared.op.MergeRule.{MergeRule}
use Rattle.flow_model.specs.declared.op.MergeRule.TheVariants as rule
use Rattle.flow_model.specs.Env.{Tuples}
use Rattle.flow_model.specs.Rows.{columns_of, with_key, keys_in, folds_of, keys_of_both, cogroup_rows, partners, inner_rows, is_nothing, alone, left_alone, right_alone, default_row, keeps_left, keeps_right, rows_if, join_rows}
use Rattle.flow_model.specs.Solutions.{Solution, candidates, next_entry, merged, probe_rows}
use Rattle.flow_model.specs.Schemas.{columns_type, fields_at, is_fold, long_each, keys_type, default_fits, join_type, cogroup_type}
use Rattle.flow_model.specs.Rules.{is_there, alike, has_defaults}
use Rattle.model_laws.specs.LawsOfFits.{AreTuplesOf, have_values, default_has_values}
use Rattle.model_laws.proofs.AllLemmas.{All-once, All-flat_map, All-flat_map_of}
use Rattle.model_laws.proofs.SchemaLaws.{both_widened-fit, tuple-wider}
use Rattle.model_laws.proofs.RowsFit.{only_if-same, tuple-of_columns, map-fit, keys_in-fit, with_key-fit, folds_of-fit, greatest_row-fit}

-- ---- joins

-- what a join's schema says: its columns have it, and its defaults fit
record JoinParts (lefts rights types : Fields) (columns : List Expr) (left_default right_default : Option Tuple) : Type 0 where
  typed : columns_type (lefts ++ rights) columns ≡ Some types
  left : default_fits lefts left_default ≡ true
  right : default_fits rights right_default ≡ true

join_parts : (lefts rights types : Fields) (left_key right_key : List ℕ) (columns : List Expr) (left_default right_default : Option Tuple) → join_type lefts rights left_key right_key columns left_default right_default ≡ Some types → JoinParts lefts rights types columns left_default right_default
join_parts lefts rights types left_key right_key columns left_default right_default e =
    option_and_then_some _ (keys_type lefts rights left_key right_key) types e (λ ks p q.
    option_and_then_some _ (columns_type (lefts ++ rights) columns) types q (λ ts r s.
    let same = only_if-same (default_fits lefts left_default && default_fits rights right_default) ts types s in
    let both = both_true (default_fits lefts left_default) (default_fits rights right_default) same.0 in
    record { typed = subst (λ fs. columns_type (lefts ++ rights) columns ≡ Some fs) same.1 r; left = both.0; right = both.1 }))

module _ (lefts rights types : Fields) (columns : List Expr) (typed : columns_type (lefts ++ rights) columns ≡ Some types) (values : have_values columns ≡ true) where
  pair-fit : (t u : Tuple) → IsTupleOf lefts t → IsTupleOf rights u → IsTupleOf types (columns_of columns (t ++ u))
  pair-fit t u g h = tuple-of_columns (lefts ++ rights) types columns typed values (t ++ u) (tuple-append lefts rights t u g h)

  pub inner_rows-fit : (left_key right_key : List ℕ) (ls rs : Tuples) → AreTuplesOf lefts ls → AreTuplesOf rights rs → AreTuplesOf types (inner_rows left_key right_key columns ls rs)
  inner_rows-fit left_key right_key ls rs g h =
      All-flat_map_of (IsTupleOf lefts) (IsTupleOf types) (λ l. map (λ r. columns_of columns (l ++ r)) (partners left_key right_key rs l))
      (λ l row. map-fit (IsTupleOf rights) types (λ r. columns_of columns (l ++ r)) (λ r other. pair-fit l r row other)
      (partners left_key right_key rs l) (with_key-fit rights right_key (key_of left_key l) rs h)) ls g

  left_alone-fit : (left_key right_key : List ℕ) (default : Tuple) (ls rs : Tuples) → IsTupleOf rights default → AreTuplesOf lefts ls → AreTuplesOf types (left_alone left_key right_key columns default ls rs)
  left_alone-fit left_key right_key default ls rs d g =
      map-fit (IsTupleOf lefts) types (λ l. columns_of columns (l ++ default)) (λ l row. pair-fit l default row d)
      (alone left_key right_key rs ls) (All-filter (λ t. is_nothing (partners left_key right_key rs t)) (IsTupleOf lefts) ls g)

  right_alone-fit : (left_key right_key : List ℕ) (default : Tuple) (ls rs : Tuples) → IsTupleOf lefts default → AreTuplesOf rights rs → AreTuplesOf types (right_alone left_key right_key columns default ls rs)
  right_alone-fit left_key right_key default ls rs d h =
      map-fit (IsTupleOf rights) types (λ r. columns_of columns (default ++ r)) (λ r row. pair-fit default r d row)
      (alone right_key left_key ls rs) (All-filter (λ t. is_nothing (partners right_key left_key ls t)) (IsTupleOf rights) rs h)

-- rows that are kept only where the default is there
kept-fit : (fields types : Fields) (keeps : Bool) (default : Option Tuple) (rows : Tuples) → alike (is_there default) keeps ≡ true → default_fits fields default ≡ true → default_has_values default ≡ true → (IsTupleOf fields (default_row default) → AreTuplesOf types rows) → AreTuplesOf types (rows_if keeps rows)
kept-fit fields types false default rows e fit values h = All-nil (IsTupleOf types)
kept-fit fields types true None rows e fit values h = cc
kept-fit fields types true (Some t) rows e fit values h = h (record { fitting = fit; values = values })

pub join_rows-fit : (lefts rights types : Fields) (kind : JoinKind) (left_key right_key : List ℕ) (columns : List Expr) (left_default right_default : Option Tuple) (ls rs : Tuples) → join_type lefts rights left_key right_key columns left_default right_default ≡ Some types → has_defaults kind left_default right_default ≡ true → (have_values columns && default_has_values left_default && default_has_values right_default) ≡ true → AreTuplesOf lefts ls → AreTuplesOf rights rs → AreTuplesOf types (join_rows kind left_key right_key columns left_default right_default ls rs)
join_rows-fit lefts rights types kind left_key right_key columns left_default right_default ls rs e there values g h =
    let parts : JoinParts lefts rights types columns left_default right_default = join_parts lefts rights types left_key right_key columns left_default right_default e in
    let defaults = both_true (alike (is_there right_default) (keeps_left kind)) (alike (is_there left_default) (keeps_right kind)) there in
    let last = both_true (have_values columns && default_has_values left_default) (default_has_values right_default) values in
    let first = both_true (have_values columns) (default_has_values left_default) last.0 in
    let left = left_alone left_key right_key columns (default_row right_default) ls rs in
    let right = right_alone left_key right_key columns (default_row left_default) ls rs in
    All-append (IsTupleOf types) (inner_rows left_key right_key columns ls rs) (rows_if (keeps_left kind) left ++ rows_if (keeps_right kind) right)
    (inner_rows-fit lefts rights types columns parts.typed first.0 left_key right_key ls rs g h)
    (All-append (IsTupleOf types) (rows_if (keeps_left kind) left) (rows_if (keeps_right kind) right)
    (kept-fit rights types (keeps_left kind) right_default left defaults.0 parts.right last.1 (λ d. left_alone-fit lefts rights types columns parts.typed first.0 left_key right_key (default_row right_default) ls rs d g))
    (kept-fit lefts types (keeps_right kind) left_default right defaults.1 parts.left first.1 (λ d. right_alone-fit lefts rights types columns parts.typed first.0 left_key right_key (default_row left_default) ls rs d h)))

pub probe_rows-fit : (lefts rights types : Fields) (held : Solution) (key held_key : List ℕ) (columns : List Expr) (rows : Tuples) → join_type lefts rights key held_key columns None None ≡ Some types → have_values columns ≡ true → AreTuplesOf lefts rows → AreTuplesOf rights held.entries → AreTuplesOf types (probe_rows held key columns rows)
probe_rows-fit lefts rights types held key held_key columns rows e values g h =
    inner_rows-fit lefts rights types columns (join_parts lefts rights types key held_key columns None None e).typed values key held.key rows held.entries g h

-- ---- cogroups

pub cogroup_rows-fit : (lefts rights types : Fields) (left_key right_key : List ℕ) (left_aggs right_aggs : List Agg) (ls rs : Tuples) → cogroup_type lefts rights left_key right_key left_aggs right_aggs ≡ Some types → (list_all states_long left_aggs && list_all states_long right_aggs) ≡ true → AreTuplesOf lefts ls → AreTuplesOf rights rs → AreTuplesOf types (cogroup_rows left_key right_key left_aggs right_aggs ls rs)
cogroup_rows-fit lefts rights types left_key right_key left_aggs right_aggs ls rs e longs g h =
    option_and_then_some _ (keys_type lefts rights left_key right_key) types e (λ ks p q.
    option_and_then_some _ (fields_at lefts left_key) ks p (λ ms r s. option_and_then_some _ (fields_at rights right_key) ks s (λ ns o w.
    let wide = both_widened-fit ms ns ks w in
    let both = both_true (list_all states_long left_aggs) (list_all states_long right_aggs) longs in
    subst (λ fs. AreTuplesOf fs (cogroup_rows left_key right_key left_aggs right_aggs ls rs))
    (only_if-same (list_all (is_fold lefts) left_aggs && list_all (is_fold rights) right_aggs) (ks ++ (long_each left_aggs ++ long_each right_aggs)) types q).1
    (map-fit (IsTupleOf ks) (ks ++ (long_each left_aggs ++ long_each right_aggs))
    (λ k. k ++ (folds_of left_aggs (with_key left_key k ls) ++ folds_of right_aggs (with_key right_key k rs)))
    (λ k row. tuple-append ks (long_each left_aggs ++ long_each right_aggs) k (folds_of left_aggs (with_key left_key k ls) ++ folds_of right_aggs (with_key right_key k rs)) row
    (tuple-append (long_each left_aggs) (long_each right_aggs) (folds_of left_aggs (with_key left_key k ls)) (folds_of right_aggs (with_key right_key k rs))
    (folds_of-fit lefts left_aggs left_key k ls both.0 g) (folds_of-fit rights right_aggs right_key k rs both.1 h)))
    (keys_of_both left_key right_key ls rs)
    (All-once (IsTupleOf ks) (map (key_of left_key) ls ++ map (key_of right_key) rs)
    (All-append (IsTupleOf ks) (map (key_of left_key) ls) (map (key_of right_key) rs)
    (All-weaker (IsTupleOf ms) (IsTupleOf ks) (tuple-wider ms ks wide.0) (map (key_of left_key) ls) (keys_in-fit lefts ms left_key ls r g))
    (All-weaker (IsTupleOf ns) (IsTupleOf ks) (tuple-wider ns ks wide.1) (map (key_of right_key) rs) (keys_in-fit rights ns right_key rs o h))))))))

-- ---- solutions

candidates-fit : (fields : Fields) (merge : MergeRule) (old deltas : Tuples) → AreTuplesOf fields old → AreTuplesOf fields deltas → AreTuplesOf fields (candidates merge old deltas)
candidates-fit fields rule.Replace old deltas g h = h
candidates-fit fields rule.Greatest old deltas g h = All-append (IsTupleOf fields) old deltas g h

next_entry-fit : (fields : Fields) (order : List OrderItem) (merge : MergeRule) (old deltas : Tuples) → AreTuplesOf fields old → AreTuplesOf fields deltas → AreTuplesOf fields (next_entry order merge old deltas)
next_entry-fit fields order merge old [] g h = g
next_entry-fit fields order merge old (d ∷ deltas) g h =
    greatest_row-fit fields order (candidates merge old (d ∷ deltas)) (candidates-fit fields merge old (d ∷ deltas) g h)

pub merged-fit : (fields : Fields) (key : List ℕ) (order : List OrderItem) (merge : MergeRule) (old rows : Tuples) → AreTuplesOf fields old → AreTuplesOf fields rows → AreTuplesOf fields (merged key order merge old rows)
merged-fit fields key order merge old rows g h =
    All-flat_map (IsTupleOf fields) (λ k. next_entry order merge (with_key key k old) (with_key key k rows))
    (λ k. next_entry-fit fields order merge (with_key key k old) (with_key key k rows) (with_key-fit fields key k old g) (with_key-fit fields key k rows h))
    (keys_in key (old ++ rows))
