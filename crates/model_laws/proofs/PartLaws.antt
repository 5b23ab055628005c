-- The law of parts: operations by keys over one list and over two, part by part.
use Rattle.std.proofs.Common.{◌≡◌, ℕ, ◌<◌, Bool, true, false, ◌==◌, List, [], ◌∷◌, ◌++◌, map, filter, take, refl, sym, ap, ◌∙◌, subst, Option}
use Rattle.std.specs.List.{flat_map}
use Rattle.std.proofs.lemmas.List.{map-id}
use Rattle.std.proofs.lemmas.List.Concat.{flat_map_single}
use Rattle.std.proofs.lemmas.List.Elements.{filter-append}
use Rattle.flow_types.specs.declared.agg.Agg.{Agg}
use Rattle.flow_types.specs.declared.expr.Expr.{Expr}
use Rattle.flow_types.specs.declared.order_item.OrderItem.{OrderItem}
use Rattle.flow_types.specs.Tuples.{Tuple, key_of, rank_cmp}
use Rattle.flow_types.specs.Bags.{sort_by}
use Rattle.flow_types.specs.SameBags.{SameBag}
use Rattle.flow_types.proofs.BagLaws.{same-from_equal, same-append}
use Rattle.flow_types.proofs.BagSplits.{same-flat_map_append}
use Rattle.flow_types.proofs.EqLemmas.{Decides-tuple_eq}
use Rattle.flow_model.specs.declared.op.JoinKind.{JoinKind}
use Rattle.flow_model.specs.declared.op.MergeRule.{MergeRule}
use Rattle.flow_model.specs.Env.{Tuples}
use Rattle.flow_model.specs.Rows.{columns_of, has_key, with_key, each_once, keys_in, distinct_rows, folds_of, group_rows, top_rows, keys_of_both, cogroup_rows, partners, inner_rows, is_nothing, alone, left_alone, right_alone, default_row, keeps_left, keeps_right, rows_if, join_rows}
use Rattle.flow_model.specs.Solutions.{Solution, greatest_row, chosen, next_entry, merged, probe_rows}
use Rattle.flow_model.specs.Full.{numbers_below}
use Rattle.model_laws.specs.LawsOfParts.{rows_in, keyed_in, in_each}
use Rattle.model_laws.proofs.OpBags.{flat_map_both}
use Rattle.model_laws.proofs.ListSplits.{filter-implied, map-filter, listed_if, map-filter_is, parts_whole, walk_in_parts}
use Rattle.model_laws.proofs.OnceSplits.{each_once-filter}

module _ (part_of : Tuple → ℕ) where
  -- the keys in a part
  abbrev pub key_in : ℕ → Tuple → Bool
  key_in i k = part_of k == i

  -- the rows that have a key of a part are all in the part
  pub with_key-part : (key : List ℕ) (i : ℕ) (k : Tuple) → key_in i k ≡ true → (xs : Tuples) → with_key key k (keyed_in part_of key i xs) ≡ with_key key k xs
  with_key-part key i k h xs =
      filter-implied (has_key key k) (λ t. key_in i (key_of key t))
      (λ t e. subst (λ u. key_in i u ≡ true) (sym ((Decides-tuple_eq (key_of key t) k).0 e)) h) xs

  -- the keys of a part's rows are those of the keys that are in the part
  pub keys_in-part : (key : List ℕ) (i : ℕ) (xs : Tuples) → keys_in key (keyed_in part_of key i xs) ≡ filter (key_in i) (keys_in key xs)
  keys_in-part key i xs =
      ap each_once (map-filter (key_of key) (key_in i) xs) ∙ each_once-filter (key_in i) (map (key_of key) xs)

  pub keys_of_both-part : (left_key right_key : List ℕ) (i : ℕ) (ls rs : Tuples) → keys_of_both left_key right_key (keyed_in part_of left_key i ls) (keyed_in part_of right_key i rs) ≡ filter (key_in i) (keys_of_both left_key right_key ls rs)
  keys_of_both-part left_key right_key i ls rs =
      ap (λ ks. each_once (ks ++ map (key_of right_key) (keyed_in part_of right_key i rs))) (map-filter (key_of left_key) (key_in i) ls)
      ∙ ap (λ ks. each_once (filter (key_in i) (map (key_of left_key) ls) ++ ks)) (map-filter (key_of right_key) (key_in i) rs)
      ∙ ap each_once (sym (filter-append (key_in i) (map (key_of left_key) ls) (map (key_of right_key) rs)))
      ∙ each_once-filter (key_in i) (map (key_of left_key) ls ++ map (key_of right_key) rs)

  -- the rows of a part, of one list after the other
  pub keyed_in-append : (key : List ℕ) (i : ℕ) (xs ys : Tuples) → keyed_in part_of key i xs ++ keyed_in part_of key i ys ≡ keyed_in part_of key i (xs ++ ys)
  keyed_in-append key i xs ys = sym (filter-append (λ t. key_in i (key_of key t)) xs ys)

  module _ (n : ℕ) (low : (t : Tuple) → part_of t < n) where
    -- ---- one list

    pub rows-parts : (xs : Tuples) → SameBag (in_each n (λ i. rows_in part_of i xs)) xs
    rows-parts xs = parts_whole part_of n low xs

    pub keyed-parts : (key : List ℕ) (xs : Tuples) → SameBag (in_each n (λ i. keyed_in part_of key i xs)) xs
    keyed-parts key xs = parts_whole (λ t. part_of (key_of key t)) n (λ t. low (key_of key t)) xs

    pub keys_in-parts : (key : List ℕ) (xs : Tuples) → SameBag (in_each n (λ i. keys_in key (keyed_in part_of key i xs))) (keys_in key xs)
    keys_in-parts key xs =
        SameBag.join
        (same-from_equal (flat_map_both (λ i. keys_in key (keyed_in part_of key i xs)) (λ i. filter (key_in i) (keys_in key xs)) (λ i. keys_in-part key i xs) refl))
        (rows-parts (keys_in key xs))

    pub distinct-parts : (xs : Tuples) → SameBag (in_each n (λ i. distinct_rows (rows_in part_of i xs))) (distinct_rows xs)
    distinct-parts xs =
        SameBag.join
        (same-from_equal (flat_map_both (λ i. distinct_rows (rows_in part_of i xs)) (λ i. filter (key_in i) (distinct_rows xs)) (λ i. each_once-filter (key_in i) xs) refl))
        (rows-parts (distinct_rows xs))

    -- by the keys of a part, one after the other
    by_keys : (h : Tuple → Tuples) (part_h : ℕ → Tuple → Tuples) → ((i : ℕ) (k : Tuple) → key_in i k ≡ true → part_h i k ≡ h k) → (ks : Tuples) (part_ks : ℕ → Tuples) → ((i : ℕ) → part_ks i ≡ filter (key_in i) ks) → SameBag (in_each n (λ i. flat_map (part_h i) (part_ks i))) (flat_map h ks)
    by_keys h part_h agree ks part_ks parts = walk_in_parts part_of n low h part_h agree ks part_ks parts

    -- the same of one tuple for each key
    one_by_keys : (h : Tuple → Tuple) (part_h : ℕ → Tuple → Tuple) → ((i : ℕ) (k : Tuple) → key_in i k ≡ true → part_h i k ≡ h k) → (ks : Tuples) (part_ks : ℕ → Tuples) → ((i : ℕ) → part_ks i ≡ filter (key_in i) ks) → SameBag (in_each n (λ i. map (part_h i) (part_ks i))) (map h ks)
    one_by_keys h part_h agree ks part_ks parts =
        SameBag.join
        (same-from_equal (flat_map_both (λ i. map (part_h i) (part_ks i)) (λ i. flat_map (λ k. part_h i k ∷ []) (part_ks i)) (λ i. sym (flat_map_single (part_h i) (part_ks i))) refl))
        (SameBag.join
        (by_keys (λ k. h k ∷ []) (λ i k. part_h i k ∷ []) (λ i k e. ap (λ t. t ∷ []) (agree i k e)) ks part_ks parts)
        (same-from_equal (flat_map_single h ks)))

    pub group_rows-parts : (key : List ℕ) (aggs : List Agg) (xs : Tuples) → SameBag (in_each n (λ i. group_rows key aggs (keyed_in part_of key i xs))) (group_rows key aggs xs)
    group_rows-parts key aggs xs =
        one_by_keys (λ k. k ++ folds_of aggs (with_key key k xs)) (λ i k. k ++ folds_of aggs (with_key key k (keyed_in part_of key i xs)))
        (λ i k e. ap (λ rows. k ++ folds_of aggs rows) (with_key-part key i k e xs)) (keys_in key xs) (λ i. keys_in key (keyed_in part_of key i xs)) (λ i. keys_in-part key i xs)

    pub top_rows-parts : (key : List ℕ) (order : List OrderItem) (count : ℕ) (xs : Tuples) → SameBag (in_each n (λ i. top_rows key order count (keyed_in part_of key i xs))) (top_rows key order count xs)
    top_rows-parts key order count xs =
        by_keys (λ k. take count (sort_by (rank_cmp order) (with_key key k xs))) (λ i k. take count (sort_by (rank_cmp order) (with_key key k (keyed_in part_of key i xs))))
        (λ i k e. ap (λ rows. take count (sort_by (rank_cmp order) rows)) (with_key-part key i k e xs)) (keys_in key xs) (λ i. keys_in key (keyed_in part_of key i xs)) (λ i. keys_in-part key i xs)

    pub chosen-parts : (key : List ℕ) (order : List OrderItem) (xs : Tuples) → SameBag (in_each n (λ i. chosen key order (keyed_in part_of key i xs))) (chosen key order xs)
    chosen-parts key order xs =
        by_keys (λ k. greatest_row order (with_key key k xs)) (λ i k. greatest_row order (with_key key k (keyed_in part_of key i xs)))
        (λ i k e. ap (greatest_row order) (with_key-part key i k e xs)) (keys_in key xs) (λ i. keys_in key (keyed_in part_of key i xs)) (λ i. keys_in-part key i xs)

    -- ---- two lists

    pub cogroup_rows-parts : (left_key right_key : List ℕ) (left_aggs right_aggs : List Agg) (ls rs : Tuples) → SameBag (in_each n (λ i. cogroup_rows left_key right_key left_aggs right_aggs (keyed_in part_of left_key i ls) (keyed_in part_of right_key i rs))) (cogroup_rows left_key right_key left_aggs right_aggs ls rs)
    cogroup_rows-parts left_key right_key left_aggs right_aggs ls rs =
        one_by_keys
        (λ k. k ++ (folds_of left_aggs (with_key left_key k ls) ++ folds_of right_aggs (with_key right_key k rs)))
        (λ i k. k ++ (folds_of left_aggs (with_key left_key k (keyed_in part_of left_key i ls)) ++ folds_of right_aggs (with_key right_key k (keyed_in part_of right_key i rs))))
        (λ i k e. ap (λ us. k ++ (folds_of left_aggs us ++ folds_of right_aggs (with_key right_key k (keyed_in part_of right_key i rs)))) (with_key-part left_key i k e ls)
        ∙ ap (λ us. k ++ (folds_of left_aggs (with_key left_key k ls) ++ folds_of right_aggs us)) (with_key-part right_key i k e rs))
        (keys_of_both left_key right_key ls rs)
        (λ i. keys_of_both left_key right_key (keyed_in part_of left_key i ls) (keyed_in part_of right_key i rs))
        (λ i. keys_of_both-part left_key right_key i ls rs)

    pub merged-parts : (key : List ℕ) (order : List OrderItem) (merge : MergeRule) (old xs : Tuples) → SameBag (in_each n (λ i. merged key order merge (keyed_in part_of key i old) (keyed_in part_of key i xs))) (merged key order merge old xs)
    merged-parts key order merge old xs =
        by_keys (λ k. next_entry order merge (with_key key k old) (with_key key k xs))
        (λ i k. next_entry order merge (with_key key k (keyed_in part_of key i old)) (with_key key k (keyed_in part_of key i xs)))
        (λ i k e. ap (λ us. next_entry order merge us (with_key key k (keyed_in part_of key i xs))) (with_key-part key i k e old)
        ∙ ap (next_entry order merge (with_key key k old)) (with_key-part key i k e xs))
        (keys_in key (old ++ xs)) (λ i. keys_in key (keyed_in part_of key i old ++ keyed_in part_of key i xs))
        (λ i. ap (keys_in key) (keyed_in-append key i old xs) ∙ keys_in-part key i (old ++ xs))

    -- the partners of a row of a part are all in the part
    partners-part : (own_key other_key : List ℕ) (i : ℕ) (t : Tuple) → key_in i (key_of own_key t) ≡ true → (others : Tuples) → partners own_key other_key (keyed_in part_of other_key i others) t ≡ partners own_key other_key others t
    partners-part own_key other_key i t e others = with_key-part other_key i (key_of own_key t) e others

    -- a walk over rows in parts by their keys
    over_rows : (key : List ℕ) (h : Tuple → Tuples) (part_h : ℕ → Tuple → Tuples) → ((i : ℕ) (t : Tuple) → key_in i (key_of key t) ≡ true → part_h i t ≡ h t) → (xs : Tuples) → SameBag (in_each n (λ i. flat_map (part_h i) (keyed_in part_of key i xs))) (flat_map h xs)
    over_rows key h part_h agree xs =
        walk_in_parts (λ t. part_of (key_of key t)) n (λ t. low (key_of key t)) h part_h agree xs (λ i. keyed_in part_of key i xs) (λ i. refl)

    pub inner_rows-parts : (left_key right_key : List ℕ) (columns : List Expr) (ls rs : Tuples) → SameBag (in_each n (λ i. inner_rows left_key right_key columns (keyed_in part_of left_key i ls) (keyed_in part_of right_key i rs))) (inner_rows left_key right_key columns ls rs)
    inner_rows-parts left_key right_key columns ls rs =
        over_rows left_key (λ l. map (λ r. columns_of columns (l ++ r)) (partners left_key right_key rs l))
        (λ i l. map (λ r. columns_of columns (l ++ r)) (partners left_key right_key (keyed_in part_of right_key i rs) l))
        (λ i l e. ap (map (λ r. columns_of columns (l ++ r))) (partners-part left_key right_key i l e rs)) ls

    -- what is made of the rows without a partner
    made_alone-parts : (own_key other_key : List ℕ) (f : Tuple → Tuple) (others xs : Tuples) → SameBag (in_each n (λ i. map f (filter (λ t. is_nothing (partners own_key other_key (keyed_in part_of other_key i others) t)) (keyed_in part_of own_key i xs)))) (map f (filter (λ t. is_nothing (partners own_key other_key others t)) xs))
    made_alone-parts own_key other_key f others xs =
        SameBag.join
        (same-from_equal
        (flat_map_both
        (λ i. map f (filter (λ t. is_nothing (partners own_key other_key (keyed_in part_of other_key i others) t)) (keyed_in part_of own_key i xs)))
        (λ i. flat_map (λ t. listed_if (is_nothing (partners own_key other_key (keyed_in part_of other_key i others) t)) (f t)) (keyed_in part_of own_key i xs))
        (λ i. map-filter_is f (λ t. is_nothing (partners own_key other_key (keyed_in part_of other_key i others) t)) (keyed_in part_of own_key i xs)) refl))
        (SameBag.join
        (over_rows own_key (λ t. listed_if (is_nothing (partners own_key other_key others t)) (f t))
        (λ i t. listed_if (is_nothing (partners own_key other_key (keyed_in part_of other_key i others) t)) (f t))
        (λ i t e. ap (λ us. listed_if (is_nothing us) (f t)) (partners-part own_key other_key i t e others)) xs)
        (same-from_equal (sym (map-filter_is f (λ t. is_nothing (partners own_key other_key others t)) xs))))

    -- the rows without a partner
    pub alone-parts : (own_key other_key : List ℕ) (others xs : Tuples) → SameBag (in_each n (λ i. alone own_key other_key (keyed_in part_of other_key i others) (keyed_in part_of own_key i xs))) (alone own_key other_key others xs)
    alone-parts own_key other_key others xs =
        SameBag.join
        (same-from_equal (flat_map_both (λ i. alone own_key other_key (keyed_in part_of other_key i others) (keyed_in part_of own_key i xs)) (λ i. map (λ t. t) (alone own_key other_key (keyed_in part_of other_key i others) (keyed_in part_of own_key i xs))) (λ i. sym (map-id _)) refl))
        (SameBag.join (made_alone-parts own_key other_key (λ t. t) others xs) (same-from_equal (map-id _)))

    rows_if-parts : (b : Bool) (part_xs : ℕ → Tuples) {xs : Tuples} → SameBag (in_each n part_xs) xs → SameBag (in_each n (λ i. rows_if b (part_xs i))) (rows_if b xs)
    rows_if-parts true part_xs s = s
    rows_if-parts false part_xs s = none_in (numbers_below n)
      where
        none_in : (is : List ℕ) → SameBag {X = Tuple} (flat_map (λ i. []) is) []
        none_in [] = SameBag.none
        none_in (i ∷ is) = none_in is

    pub join_rows-parts : (kind : JoinKind) (left_key right_key : List ℕ) (columns : List Expr) (left_default right_default : Option Tuple) (ls rs : Tuples) → SameBag (in_each n (λ i. join_rows kind left_key right_key columns left_default right_default (keyed_in part_of left_key i ls) (keyed_in part_of right_key i rs))) (join_rows kind left_key right_key columns left_default right_default ls rs)
    join_rows-parts kind left_key right_key columns left_default right_default ls rs =
        let inner : ℕ → Tuples = λ i. inner_rows left_key right_key columns (keyed_in part_of left_key i ls) (keyed_in part_of right_key i rs) in
        let left : ℕ → Tuples = λ i. left_alone left_key right_key columns (default_row right_default) (keyed_in part_of left_key i ls) (keyed_in part_of right_key i rs) in
        let right : ℕ → Tuples = λ i. right_alone left_key right_key columns (default_row left_default) (keyed_in part_of left_key i ls) (keyed_in part_of right_key i rs) in
        SameBag.join
        (same-flat_map_append inner (λ i. rows_if (keeps_left kind) (left i) ++ rows_if (keeps_right kind) (right i)) (numbers_below n))
        (same-append (inner_rows-parts left_key right_key columns ls rs)
        (SameBag.join
        (same-flat_map_append (λ i. rows_if (keeps_left kind) (left i)) (λ i. rows_if (keeps_right kind) (right i)) (numbers_below n))
        (same-append
        (rows_if-parts (keeps_left kind) left (made_alone-parts left_key right_key (λ l. columns_of columns (l ++ default_row right_default)) rs ls))
        (rows_if-parts (keeps_right kind) right (made_alone-parts right_key left_key (λ r. columns_of columns (default_row left_default ++ r)) ls rs)))))

    pub probe_rows-parts : (held : Solution) (key : List ℕ) (columns : List Expr) (xs : Tuples) → SameBag (in_each n (λ i. probe_rows (record { key = held.key; entries = keyed_in part_of held.key i held.entries }) key columns (keyed_in part_of key i xs))) (probe_rows held key columns xs)
    probe_rows-parts held key columns xs = inner_rows-parts key held.key columns xs held.entries
