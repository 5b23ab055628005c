-- The law of bags, operation by operation.
use Rattle.std.proofs.Common.{◌≡◌, ℕ, ◌≤◌, Bool, true, false, List, [], ◌∷◌, ◌++◌, length, map, filter, take, refl, ap, ◌∙◌, arith, Option}
use Rattle.std.specs.List.{flat_map, dedup}
use Rattle.flow_types.specs.declared.agg.Agg.{Agg}
use Rattle.flow_types.specs.declared.value.Value.TheVariants as value
use Rattle.flow_types.specs.declared.expr.Expr.{Expr}
use Rattle.flow_types.specs.declared.order_item.OrderItem.{OrderItem}
use Rattle.flow_types.specs.Values.{flag_of}
use Rattle.flow_types.specs.Tuples.{Tuple, tuple_eq, key_of, rank_cmp}
use Rattle.flow_types.specs.Expressions.{val}
use Rattle.flow_types.specs.Folds.{fold_of}
use Rattle.flow_types.specs.SameBags.{SameBag}
use Rattle.flow_types.specs.Bags.{sort_by}
use Rattle.flow_types.proofs.BagLaws.{same-refl, same-from_equal, same-append, same-map, same-filter, same-flat_map, same-flat_map_each, same-flat_map_both, length-same}
use Rattle.flow_types.proofs.BagBridges.{ordered-same, rank_sort-same}
use Rattle.flow_types.proofs.FoldLaws.{fold_of-same}
use Rattle.flow_model.specs.declared.op.Branch.{Branch}
use Rattle.flow_model.specs.declared.op.JoinKind.{JoinKind}
use Rattle.flow_model.specs.declared.op.MergeRule.{MergeRule}
use Rattle.flow_model.specs.declared.op.MergeRule.TheVariants as rule
use Rattle.flow_model.specs.Env.{Tuples}
use Rattle.flow_model.specs.Rows.{columns_of, map_rows, filter_rows, branch_rows, flat_map_rows, has_key, with_key, each_once, keys_in, folds_of, group_rows, top_rows, cogroup_rows, partners, inner_rows, is_nothing, alone, left_alone, right_alone, default_row, keeps_left, keeps_right, rows_if, join_rows}
use Rattle.flow_model.specs.Solutions.{Solution, greatest_row, last_row, chosen, candidates, next_entry, merged, probe_rows}

-- ---- one list of another function or another list

pub map_both : {X Y : Type 0} (f g : X → Y) {xs ys : List X} → ((x : X) → f x ≡ g x) → xs ≡ ys → map f xs ≡ map g ys
map_both f g {xs} {ys} h e = ap (λ k. map k xs) (λ i x. h x i) ∙ ap (map g) e

pub flat_map_both : {X Y : Type 0} (f g : X → List Y) {xs ys : List X} → ((x : X) → f x ≡ g x) → xs ≡ ys → flat_map f xs ≡ flat_map g ys
flat_map_both f g {xs} {ys} h e = ap (λ k. flat_map k xs) (λ i x. h x i) ∙ ap (flat_map g) e

pub filter_both : {X : Type 0} (p q : X → Bool) (xs : List X) → ((x : X) → p x ≡ q x) → filter p xs ≡ filter q xs
filter_both p q xs h = ap (λ k. filter k xs) (λ i x. h x i)

-- ---- rows to rows

pub map_rows-same : (columns : List Expr) {xs ys : Tuples} → SameBag xs ys → SameBag (map_rows columns xs) (map_rows columns ys)
map_rows-same columns s = same-map (columns_of columns) s

pub filter_rows-same : (test : Expr) {xs ys : Tuples} → SameBag xs ys → SameBag (filter_rows test xs) (filter_rows test ys)
filter_rows-same test s = same-filter (λ t. flag_of (val t test)) s

pub flat_map_rows-same : (branches : List Branch) {xs ys : Tuples} → SameBag xs ys → SameBag (flat_map_rows branches xs) (flat_map_rows branches ys)
flat_map_rows-same branches s = same-flat_map (branch_rows branches) s

-- ---- by keys

pub each_once-same : {xs ys : Tuples} → SameBag xs ys → each_once xs ≡ each_once ys
each_once-same s = ap (dedup tuple_eq) (ordered-same s)

pub keys_in-same : (key : List ℕ) {xs ys : Tuples} → SameBag xs ys → keys_in key xs ≡ keys_in key ys
keys_in-same key s = each_once-same (same-map (key_of key) s)

pub with_key-same : (key : List ℕ) (k : Tuple) {xs ys : Tuples} → SameBag xs ys → SameBag (with_key key k xs) (with_key key k ys)
with_key-same key k s = same-filter (has_key key k) s

pub folds_of-same : (aggs : List Agg) {xs ys : Tuples} → SameBag xs ys → folds_of aggs xs ≡ folds_of aggs ys
folds_of-same aggs {xs} {ys} s = map_both (λ a. value.Long (fold_of a xs)) (λ a. value.Long (fold_of a ys)) (λ a. ap (λ n. value.Long n) (fold_of-same a s)) refl

pub group_rows-same : (key : List ℕ) (aggs : List Agg) {xs ys : Tuples} → SameBag xs ys → group_rows key aggs xs ≡ group_rows key aggs ys
group_rows-same key aggs {xs} {ys} s =
    map_both (λ k. k ++ folds_of aggs (with_key key k xs)) (λ k. k ++ folds_of aggs (with_key key k ys))
    (λ k. ap (λ t. k ++ t) (folds_of-same aggs (with_key-same key k s))) (keys_in-same key s)

pub top_rows-same : (key : List ℕ) (order : List OrderItem) (count : ℕ) {xs ys : Tuples} → SameBag xs ys → top_rows key order count xs ≡ top_rows key order count ys
top_rows-same key order count {xs} {ys} s =
    flat_map_both (λ k. take count (sort_by (rank_cmp order) (with_key key k xs))) (λ k. take count (sort_by (rank_cmp order) (with_key key k ys)))
    (λ k. ap (take count) (rank_sort-same order (with_key-same key k s))) (keys_in-same key s)

pub cogroup_rows-same : (left_key right_key : List ℕ) (left_aggs right_aggs : List Agg) {ls ms rs ss : Tuples} → SameBag ls ms → SameBag rs ss → cogroup_rows left_key right_key left_aggs right_aggs ls rs ≡ cogroup_rows left_key right_key left_aggs right_aggs ms ss
cogroup_rows-same left_key right_key left_aggs right_aggs {ls} {ms} {rs} {ss} s t =
    map_both
    (λ k. k ++ (folds_of left_aggs (with_key left_key k ls) ++ folds_of right_aggs (with_key right_key k rs)))
    (λ k. k ++ (folds_of left_aggs (with_key left_key k ms) ++ folds_of right_aggs (with_key right_key k ss)))
    (λ k. ap (λ u. k ++ (u ++ folds_of right_aggs (with_key right_key k rs))) (folds_of-same left_aggs (with_key-same left_key k s))
    ∙ ap (λ u. k ++ (folds_of left_aggs (with_key left_key k ms) ++ u)) (folds_of-same right_aggs (with_key-same right_key k t)))
    (each_once-same (same-append (same-map (key_of left_key) s) (same-map (key_of right_key) t)))

-- ---- joins

pub partners-same : (own_key other_key : List ℕ) (t : Tuple) {xs ys : Tuples} → SameBag xs ys → SameBag (partners own_key other_key xs t) (partners own_key other_key ys t)
partners-same own_key other_key t s = with_key-same other_key (key_of own_key t) s

pub inner_rows-same : (left_key right_key : List ℕ) (columns : List Expr) {ls ms rs ss : Tuples} → SameBag ls ms → SameBag rs ss → SameBag (inner_rows left_key right_key columns ls rs) (inner_rows left_key right_key columns ms ss)
inner_rows-same left_key right_key columns {ls} {ms} {rs} {ss} s t =
    same-flat_map_both
    (λ l. map (λ r. columns_of columns (l ++ r)) (partners left_key right_key rs l))
    (λ l. map (λ r. columns_of columns (l ++ r)) (partners left_key right_key ss l))
    (λ l. same-map (λ r. columns_of columns (l ++ r)) (partners-same left_key right_key l t)) s

pub is_nothing-same : (xs ys : Tuples) → SameBag xs ys → is_nothing xs ≡ is_nothing ys
is_nothing-same [] [] s = refl
is_nothing-same [] (y ∷ ys) s = absurd (omega (arith, length-same s))
is_nothing-same (x ∷ xs) [] s = absurd (omega (arith, length-same s))
is_nothing-same (x ∷ xs) (y ∷ ys) s = refl

pub alone-same : (own_key other_key : List ℕ) {xs ys us vs : Tuples} → SameBag xs ys → SameBag us vs → SameBag (alone own_key other_key xs us) (alone own_key other_key ys vs)
alone-same own_key other_key {xs} {ys} {us} {vs} s t =
    SameBag.join (same-filter (λ u. is_nothing (partners own_key other_key xs u)) t)
    (same-from_equal (filter_both (λ u. is_nothing (partners own_key other_key xs u)) (λ u. is_nothing (partners own_key other_key ys u)) vs
    (λ u. is_nothing-same (partners own_key other_key xs u) (partners own_key other_key ys u) (partners-same own_key other_key u s))))

pub left_alone-same : (left_key right_key : List ℕ) (columns : List Expr) (default : Tuple) {ls ms rs ss : Tuples} → SameBag ls ms → SameBag rs ss → SameBag (left_alone left_key right_key columns default ls rs) (left_alone left_key right_key columns default ms ss)
left_alone-same left_key right_key columns default s t =
    same-map (λ l. columns_of columns (l ++ default)) (alone-same left_key right_key t s)

pub right_alone-same : (left_key right_key : List ℕ) (columns : List Expr) (default : Tuple) {ls ms rs ss : Tuples} → SameBag ls ms → SameBag rs ss → SameBag (right_alone left_key right_key columns default ls rs) (right_alone left_key right_key columns default ms ss)
right_alone-same left_key right_key columns default s t =
    same-map (λ r. columns_of columns (default ++ r)) (alone-same right_key left_key s t)

pub rows_if-same : (b : Bool) {xs ys : Tuples} → SameBag xs ys → SameBag (rows_if b xs) (rows_if b ys)
rows_if-same true s = s
rows_if-same false s = SameBag.none

pub join_rows-same : (kind : JoinKind) (left_key right_key : List ℕ) (columns : List Expr) (left_default right_default : Option Tuple) {ls ms rs ss : Tuples} → SameBag ls ms → SameBag rs ss → SameBag (join_rows kind left_key right_key columns left_default right_default ls rs) (join_rows kind left_key right_key columns left_default right_default ms ss)
join_rows-same kind left_key right_key columns left_default right_default s t =
    same-append (inner_rows-same left_key right_key columns s t)
    (same-append (rows_if-same (keeps_left kind) (left_alone-same left_key right_key columns (default_row right_default) s t))
    (rows_if-same (keeps_right kind) (right_alone-same left_key right_key columns (default_row left_default) s t)))

pub probe_rows-same : (held other : Solution) (key : List ℕ) (columns : List Expr) {xs ys : Tuples} → held.key ≡ other.key → SameBag held.entries other.entries → SameBag xs ys → SameBag (probe_rows held key columns xs) (probe_rows other key columns ys)
probe_rows-same held other key columns {xs} {ys} e s t =
    SameBag.join (inner_rows-same key held.key columns t s) (same-from_equal (ap (λ k. inner_rows key k columns ys other.entries) e))

-- ---- solutions

pub greatest_row-same : (order : List OrderItem) {xs ys : Tuples} → SameBag xs ys → greatest_row order xs ≡ greatest_row order ys
greatest_row-same order s = ap last_row (rank_sort-same order s)

pub chosen-same : (key : List ℕ) (order : List OrderItem) {xs ys : Tuples} → SameBag xs ys → chosen key order xs ≡ chosen key order ys
chosen-same key order {xs} {ys} s =
    flat_map_both (λ k. greatest_row order (with_key key k xs)) (λ k. greatest_row order (with_key key k ys))
    (λ k. greatest_row-same order (with_key-same key k s)) (keys_in-same key s)

candidates-same : (merge : MergeRule) {os ps xs ys : Tuples} → SameBag os ps → SameBag xs ys → SameBag (candidates merge os xs) (candidates merge ps ys)
candidates-same rule.Replace s t = t
candidates-same rule.Greatest s t = same-append s t

-- a key's new entry, where its old rows stay as they are: with no deltas, in the form that is wanted of them
next_entry_by : (order : List OrderItem) (merge : MergeRule) (P : Tuples → Tuples → Type 0) → ((us vs : Tuples) → us ≡ vs → P us vs) → (os ps xs ys : Tuples) → SameBag os ps → P os ps → SameBag xs ys → P (next_entry order merge os xs) (next_entry order merge ps ys)
next_entry_by order merge P equal os ps [] [] s p t = p
next_entry_by order merge P equal os ps [] (y ∷ ys) s p t = absurd (omega (arith, length-same t))
next_entry_by order merge P equal os ps (x ∷ xs) [] s p t = absurd (omega (arith, length-same t))
next_entry_by order merge P equal os ps (x ∷ xs) (y ∷ ys) s p t = equal _ _ (greatest_row-same order (candidates-same merge s t))

pub merged-same : (key : List ℕ) (order : List OrderItem) (merge : MergeRule) {os ps xs ys : Tuples} → SameBag os ps → SameBag xs ys → SameBag (merged key order merge os xs) (merged key order merge ps ys)
merged-same key order merge {os} {ps} {xs} {ys} s t =
    SameBag.join
    (same-flat_map_each (λ k. next_entry order merge (with_key key k os) (with_key key k xs)) (λ k. next_entry order merge (with_key key k ps) (with_key key k ys))
    (λ k. next_entry_by order merge SameBag (λ us vs e. same-from_equal e) _ _ _ _ (with_key-same key k s) (with_key-same key k s) (with_key-same key k t)) (keys_in key (os ++ xs)))
    (same-from_equal (ap (flat_map (λ k. next_entry order merge (with_key key k ps) (with_key key k ys))) (keys_in-same key (same-append s t))))

-- where the old rows of each key stand in one order
pub merged_list : (key : List ℕ) (order : List OrderItem) (merge : MergeRule) {os ps xs ys : Tuples} → ((k : Tuple) → with_key key k os ≡ with_key key k ps) → SameBag os ps → SameBag xs ys → merged key order merge os xs ≡ merged key order merge ps ys
merged_list key order merge {os} {ps} {xs} {ys} h s t =
    flat_map_both (λ k. next_entry order merge (with_key key k os) (with_key key k xs)) (λ k. next_entry order merge (with_key key k ps) (with_key key k ys))
    (λ k. next_entry_by order merge (λ us vs. us ≡ vs) (λ us vs e. e) _ _ _ _ (with_key-same key k s) (h k) (with_key-same key k t)) (keys_in-same key (same-append s t))

-- the same bags of at most one row are one list
single-same : (xs ys : Tuples) → length xs ≤ 1 → SameBag xs ys → xs ≡ ys
single-same [] [] h s = refl
single-same [] (y ∷ ys) h s = absurd (omega (arith, length-same s))
single-same (x ∷ xs) [] h s = absurd (omega (arith, length-same s))
single-same (x ∷ []) (y ∷ []) h s = ordered-same s
single-same (x ∷ []) (y ∷ z ∷ zs) h s = absurd (omega (arith, length-same s))
single-same (w ∷ x ∷ xs) ys h s = absurd (omega arith)

pub merged_equal : (key : List ℕ) (order : List OrderItem) (merge : MergeRule) (os : Tuples) {xs ys : Tuples} → SameBag xs ys → merged key order merge os xs ≡ merged key order merge os ys
merged_equal key order merge os t = merged_list key order merge (λ k. refl) (same-refl os) t

pub merged_single : (key : List ℕ) (order : List OrderItem) (merge : MergeRule) {os ps xs ys : Tuples} → ((k : Tuple) → length (with_key key k os) ≤ 1) → SameBag os ps → SameBag xs ys → merged key order merge os xs ≡ merged key order merge ps ys
merged_single key order merge {os} {ps} h s t =
    merged_list key order merge (λ k. single-same (with_key key k os) (with_key key k ps) (h k) (with_key-same key k s)) s t
