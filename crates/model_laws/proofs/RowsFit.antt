-- The law of schemas, operation by operation: operations over one list of rows.
use Rattle.std.proofs.Common.{◌≡◌, ℕ, Bool, true, false, ◌&&◌, List, [], ◌∷◌, ◌++◌, map, filter, take, refl, subst, Some, cond}
use Rattle.std.specs.Prelude.{All}
use Rattle.std.specs.List.{list_all, flat_map, AllZip, AllByRecursion}
use Rattle.std.proofs.lemmas.Option.{option_and_then_some}
use Rattle.std.proofs.lemmas.List.Elements.{All-nil, All-cons, All-append, All-map, All-filter, All-weaker, All-tail, All-take}
use Rattle.flow_types.specs.declared.agg.Agg.{Agg}
use Rattle.flow_types.specs.declared.expr.Expr.{Expr}
use Rattle.flow_types.specs.declared.order_item.OrderItem.{OrderItem}
use Rattle.flow_types.specs.declared.field_type.FieldType.TheVariants as type
use Rattle.flow_types.specs.declared.value.Value.TheVariants as value
use Rattle.flow_types.specs.Values.{is_value, flag_of}
use Rattle.flow_types.specs.Types.{Fields}
use Rattle.flow_types.specs.Tuples.{Tuple, key_of, rank_cmp}
use Rattle.flow_types.specs.Bags.{sort_by}
use Rattle.flow_types.specs.Records.{IsTupleOf}
use Rattle.flow_types.specs.Expressions.{val}
use Rattle.flow_types.specs.Folds.{fold_of}
use Rattle.flow_types.specs.ExprTypes.{typing_of, type_of}
use Rattle.flow_types.specs.LawsOfTypes.{HasType, has_values}
use Rattle.flow_types.specs.LawsOfFolds.{states_long}
use Rattle.flow_types.proofs.ValueLemmas.{both_true}
use Rattle.flow_types.proofs.FoldLongs.{long-fold_of}
use Rattle.flow_types.proofs.ColumnLaws.{tuple-columns, tuple-append}
use Rattle.flow_model.specs.declared.op.Branch.{Branch}
use Rattle.flow_model.specs.Env.{Tuples}
use Rattle.flow_model.specs.Rows.{columns_of, map_rows, filter_rows, branch_rows, flat_map_rows, has_key, with_key, keys_in, folds_of, group_rows, top_rows}
use Rattle.flow_model.specs.Solutions.{last_row, greatest_row, chosen}
use Rattle.flow_model.specs.Schemas.{only_if, types_of, are_narrow, columns_type, tested, is_test, branch_type, branch_types, all_widened, fields_at, is_fold, long_each, group_type, has_order, ranked}
use Rattle.model_laws.specs.LawsOfFits.{AreTuplesOf, have_values, branch_has_values}
use Rattle.model_laws.proofs.AllLemmas.{All-sort, All-once, All-flat_map, All-flat_map_of, list_all_from_All}
use Rattle.model_laws.proofs.SchemaLaws.{HasTuplesOf, all_widened-fit, tuple-nil, tuple-cons, tuple-key}

-- what a test leaves there is what was given, and the test passed
pub only_if-same : {A : Type 0} (b : Bool) (x y : A) → only_if b x ≡ Some y → (b ≡ true) × (x ≡ y)
only_if-same true x y e = (refl, cc)
only_if-same false x y e = cc

-- ---- columns

typed_columns : (fields types : Fields) (es : List Expr) → types_of fields es ≡ Some types → are_narrow fields es ≡ true → have_values es ≡ true → AllZip (HasType fields) es types
typed_columns fields types [] e narrow values = let nil : [] ≡ types = cc in subst (AllZip (HasType fields) []) nil tt
typed_columns fields types (x ∷ es) e narrow values =
    option_and_then_some _ (type_of fields x) types e (λ f p q. option_and_then_some _ (types_of fields es) types q (λ fs r s.
    let one = both_true (typing_of fields x).narrow (are_narrow fields es) narrow in
    let two = both_true (has_values x) (have_values es) values in
    let cons : f ∷ fs ≡ types = cc in
    subst (AllZip (HasType fields) (x ∷ es)) cons
    (record { typed = p; narrow = one.0; literals = two.0 }, typed_columns fields fs es r one.1 two.1)))

pub tuple-of_columns : (fields types : Fields) (columns : List Expr) → columns_type fields columns ≡ Some types → have_values columns ≡ true → (t : Tuple) → IsTupleOf fields t → IsTupleOf types (columns_of columns t)
tuple-of_columns fields types columns e values t row =
    option_and_then_some (only_if (are_narrow fields columns)) (types_of fields columns) types e (λ ts p q.
    let same = only_if-same (are_narrow fields columns) ts types q in
    subst (λ fs. IsTupleOf fs (columns_of columns t)) same.1
    (tuple-columns fields t row columns ts (typed_columns fields ts columns p same.0 values)))

-- rows of one tuple for each
pub map-fit : {X : Type 0} (P : X → Type 0) (types : Fields) (f : X → Tuple) → ((x : X) → P x → IsTupleOf types (f x)) → (xs : List X) → All P xs → AreTuplesOf types (map f xs)
map-fit P types f h xs all = All-map (IsTupleOf types) f xs (All-weaker P (λ x. IsTupleOf types (f x)) h xs all)

pub map_rows-fit : (fields types : Fields) (columns : List Expr) (rows : Tuples) → columns_type fields columns ≡ Some types → have_values columns ≡ true → AreTuplesOf fields rows → AreTuplesOf types (map_rows columns rows)
map_rows-fit fields types columns rows e values h =
    map-fit (IsTupleOf fields) types (columns_of columns) (tuple-of_columns fields types columns e values) rows h

pub filter_rows-fit : (fields types : Fields) (test : Expr) (rows : Tuples) → tested fields test ≡ Some types → AreTuplesOf fields rows → AreTuplesOf types (filter_rows test rows)
filter_rows-fit fields types test rows e h =
    subst (λ fs. AreTuplesOf fs (filter_rows test rows)) (only_if-same (is_test fields test && (typing_of fields test).narrow) fields types e).1
    (All-filter (λ t. flag_of (val t test)) (IsTupleOf fields) rows h)

-- ---- branches

branch_columns : (fields fs : Fields) (b : Branch) → branch_type fields b ≡ Some fs → columns_type fields b.columns ≡ Some fs
branch_columns fields fs b e = option_and_then_some (λ _. columns_type fields b.columns) (tested fields b.when) fs e (λ x p q. q)

branches-fit : (fields types : Fields) (t : Tuple) → IsTupleOf fields t → (branches : List Branch) (lists : List Fields) → branch_types fields branches ≡ Some lists → AllByRecursion (HasTuplesOf types) lists → list_all branch_has_values branches ≡ true → AreTuplesOf types (branch_rows branches t)
branches-fit fields types t row [] lists e wide values = All-nil (IsTupleOf types)
branches-fit fields types t row (b ∷ branches) lists e wide values =
    option_and_then_some _ (branch_type fields b) lists e (λ fs p q. option_and_then_some _ (branch_types fields branches) lists q (λ rest r s.
    let cons : lists ≡ fs ∷ rest = cc in
    let wider = subst (AllByRecursion (HasTuplesOf types)) cons wide in
    let one = both_true (branch_has_values b) (list_all branch_has_values branches) values in
    let columns = both_true (has_values b.when) (have_values b.columns) one.0 in
    go (flag_of (val t b.when)) (wider.0 (columns_of b.columns t) (tuple-of_columns fields fs b.columns (branch_columns fields fs b p) columns.1 t row))
    (branches-fit fields types t row branches rest r wider.1 one.1)))
  where
    go : (c : Bool) → IsTupleOf types (columns_of b.columns t) → AreTuplesOf types (branch_rows branches t) → AreTuplesOf types (map (λ (x : Branch). columns_of x.columns t) (cond c (b ∷ filter (λ (x : Branch). flag_of (val t x.when)) branches) (filter (λ (x : Branch). flag_of (val t x.when)) branches)))
    go true head tail = All-cons (IsTupleOf types) (columns_of b.columns t) (branch_rows branches t) head tail
    go false head tail = tail

pub flat_map_rows-fit : (fields types : Fields) (branches : List Branch) (lists : List Fields) (rows : Tuples) → branch_types fields branches ≡ Some lists → all_widened lists ≡ Some types → list_all branch_has_values branches ≡ true → AreTuplesOf fields rows → AreTuplesOf types (flat_map_rows branches rows)
flat_map_rows-fit fields types branches lists rows e f values h =
    All-flat_map_of (IsTupleOf fields) (IsTupleOf types) (branch_rows branches)
    (λ t row. branches-fit fields types t row branches lists e (all_widened-fit lists types f) values) rows h

-- ---- unions

pub union-fit : (types : Fields) (schemas : List Fields) (lists : List Tuples) → AllByRecursion (HasTuplesOf types) schemas → AllZip AreTuplesOf schemas lists → AreTuplesOf types (flat_map (λ rows. rows) lists)
union-fit types [] [] wide h = All-nil (IsTupleOf types)
union-fit types [] (rows ∷ lists) wide h = absurd h
union-fit types (fs ∷ schemas) [] wide h = absurd h
union-fit types (fs ∷ schemas) (rows ∷ lists) wide h =
    All-append (IsTupleOf types) rows (flat_map (λ rows. rows) lists) (All-weaker (IsTupleOf fs) (IsTupleOf types) wide.0 rows h.0) (union-fit types schemas lists wide.1 h.1)

-- ---- keys and folds

pub keys_in-fit : (fields ks : Fields) (key : List ℕ) (rows : Tuples) → fields_at fields key ≡ Some ks → AreTuplesOf fields rows → AreTuplesOf ks (map (key_of key) rows)
keys_in-fit fields ks key rows e h = map-fit (IsTupleOf fields) ks (key_of key) (tuple-key fields ks key e) rows h

pub with_key-fit : (fields : Fields) (key : List ℕ) (k : Tuple) (rows : Tuples) → AreTuplesOf fields rows → AreTuplesOf fields (with_key key k rows)
with_key-fit fields key k rows h = All-filter (has_key key k) (IsTupleOf fields) rows h

folds-tuple : (aggs : List Agg) (rows : Tuples) → list_all states_long aggs ≡ true → list_all (list_all is_value) rows ≡ true → IsTupleOf (long_each aggs) (folds_of aggs rows)
folds-tuple [] rows longs values = tuple-nil
folds-tuple (a ∷ aggs) rows longs values =
    let both = both_true (states_long a) (list_all states_long aggs) longs in
    tuple-cons type.Long (long_each aggs) (value.Long (fold_of a rows)) (folds_of aggs rows) refl (long-fold_of a rows both.0 values) (folds-tuple aggs rows both.1 values)

pub folds_of-fit : (fields : Fields) (aggs : List Agg) (key : List ℕ) (k : Tuple) (rows : Tuples) → list_all states_long aggs ≡ true → AreTuplesOf fields rows → IsTupleOf (long_each aggs) (folds_of aggs (with_key key k rows))
folds_of-fit fields aggs key k rows longs h =
    folds-tuple aggs (with_key key k rows) longs
    (list_all_from_All (IsTupleOf fields) (list_all is_value) (λ t row. row.values) (with_key key k rows) (with_key-fit fields key k rows h))

pub group_rows-fit : (fields types : Fields) (key : List ℕ) (aggs : List Agg) (rows : Tuples) → group_type fields key aggs ≡ Some types → list_all states_long aggs ≡ true → AreTuplesOf fields rows → AreTuplesOf types (group_rows key aggs rows)
group_rows-fit fields types key aggs rows e longs h =
    option_and_then_some _ (fields_at fields key) types e (λ ks p q.
    subst (λ fs. AreTuplesOf fs (group_rows key aggs rows)) (only_if-same (list_all (is_fold fields) aggs) (ks ++ long_each aggs) types q).1
    (map-fit (IsTupleOf ks) (ks ++ long_each aggs) (λ k. k ++ folds_of aggs (with_key key k rows))
    (λ k r. tuple-append ks (long_each aggs) k (folds_of aggs (with_key key k rows)) r (folds_of-fit fields aggs key k rows longs h))
    (keys_in key rows) (All-once (IsTupleOf ks) (map (key_of key) rows) (keys_in-fit fields ks key rows p h))))

-- ---- the rows themselves

pub ranked-same : (fields types : Fields) (key : List ℕ) (order : List OrderItem) → ranked fields key order ≡ Some types → fields ≡ types
ranked-same fields types key order e =
    option_and_then_some _ (fields_at fields key) types e (λ ks p q. (only_if-same (has_order fields order) fields types q).1)

pub top_rows-fit : (fields : Fields) (key : List ℕ) (order : List OrderItem) (count : ℕ) (rows : Tuples) → AreTuplesOf fields rows → AreTuplesOf fields (top_rows key order count rows)
top_rows-fit fields key order count rows h =
    All-flat_map (IsTupleOf fields) (λ k. take count (sort_by (rank_cmp order) (with_key key k rows)))
    (λ k. All-take (IsTupleOf fields) count (sort_by (rank_cmp order) (with_key key k rows)) (All-sort (IsTupleOf fields) (rank_cmp order) (with_key key k rows) (with_key-fit fields key k rows h)))
    (keys_in key rows)

pub last_row-fit : (P : Tuple → Type 0) (rows : Tuples) → All P rows → All P (last_row rows)
last_row-fit P [] h = h
last_row-fit P (t ∷ []) h = h
last_row-fit P (t ∷ u ∷ rows) h = last_row-fit P (u ∷ rows) (All-tail P t (u ∷ rows) h)

pub greatest_row-fit : (fields : Fields) (order : List OrderItem) (rows : Tuples) → AreTuplesOf fields rows → AreTuplesOf fields (greatest_row order rows)
greatest_row-fit fields order rows h =
    last_row-fit (IsTupleOf fields) (sort_by (rank_cmp order) rows) (All-sort (IsTupleOf fields) (rank_cmp order) rows h)

pub chosen-fit : (fields : Fields) (key : List ℕ) (order : List OrderItem) (rows : Tuples) → AreTuplesOf fields rows → AreTuplesOf fields (chosen key order rows)
chosen-fit fields key order rows h =
    All-flat_map (IsTupleOf fields) (λ k. greatest_row order (with_key key k rows))
    (λ k. greatest_row-fit fields order (with_key key k rows) (with_key-fit fields key k rows h)) (keys_in key rows)
