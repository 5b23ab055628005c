-- A solution holds at most one row for each key.
use Rattle.std.proofs.Common.{◌≡◌, ℕ, ◌≤◌, Bool, true, false, cond, List, [], ◌∷◌, ◌++◌, length, length-append, map, refl, ap, ◌∙◌, subst, arith}
use Rattle.std.specs.Prelude.{All}
use Rattle.std.specs.List.{flat_map, AllByRecursion}
use Rattle.std.specs.List.Sorted.{IsStrictlySortedBy}
use Rattle.std.specs.Ordering.{is_eq, ordering_reverse}
use Rattle.std.specs.declared.cmp.Ordering.TheVariants.{Less}
use Rattle.std.proofs.lemmas.List.Elements.{All-head, All-tail, All-append, All-weaker, filter-append, filter_passes}
use Rattle.std.proofs.lemmas.List.Kept.{IsStrictlySortedBy-dedup}
use Rattle.flow_types.specs.declared.order_item.OrderItem.{OrderItem}
use Rattle.flow_types.specs.Tuples.{Tuple, tuple_cmp, tuple_eq, key_of, rank_cmp}
use Rattle.flow_types.specs.Bags.{sort_by, ordered}
use Rattle.flow_types.proofs.OrderLaws.{tuple_cmp_total}
use Rattle.flow_types.proofs.SortLaws.{sort_sorted}
use Rattle.flow_types.proofs.EqLemmas.{Decides-tuple_eq}
use Rattle.flow_model.specs.declared.op.MergeRule.{MergeRule}
use Rattle.flow_model.specs.declared.op.MergeRule.TheVariants as rule
use Rattle.flow_model.specs.Env.{Tuples}
use Rattle.flow_model.specs.Rows.{has_key, with_key, each_once, keys_in}
use Rattle.flow_model.specs.Solutions.{last_row, greatest_row, chosen, candidates, next_entry, merged}
use Rattle.model_laws.specs.LawsOfOps.{HasSingleKeys}
use Rattle.model_laws.proofs.AllLemmas.{All-sort}
use Rattle.model_laws.proofs.RowsFit.{last_row-fit}

-- ---- keys, each once

-- no tuple stands twice
abbrev StandOnce : Tuples → Type 0
StandOnce [] = Unit {0}
StandOnce (k ∷ ks) = AllByRecursion (λ j. tuple_eq j k ≡ false) ks × StandOnce ks

apart_from_less : (k j : Tuple) → tuple_cmp k j ≡ Less → tuple_eq j k ≡ false
apart_from_less k j e = ap is_eq (tuple_cmp_total.antisymm j k ∙ ap ordering_reverse e)

all_apart : (k : Tuple) (ks : Tuples) → AllByRecursion (λ j. tuple_cmp k j ≡ Less) ks → AllByRecursion (λ j. tuple_eq j k ≡ false) ks
all_apart k [] h = tt
all_apart k (j ∷ ks) h = (apart_from_less k j h.0, all_apart k ks h.1)

once_from_sorted : (ks : Tuples) → IsStrictlySortedBy tuple_cmp ks → StandOnce ks
unfolding IsStrictlySortedBy
once_from_sorted [] h = tt
once_from_sorted (k ∷ ks) h = (all_apart k ks h.0, once_from_sorted ks h.1)

each_once-once : (rows : Tuples) → StandOnce (each_once rows)
each_once-once rows =
    once_from_sorted (each_once rows) (IsStrictlySortedBy-dedup tuple_cmp_total (λ t u. refl) (ordered rows) (sort_sorted tuple_cmp tuple_cmp_total rows))

-- ---- rows of one key, and of each key at most one

module _ (key : List ℕ) where
  abbrev HaveKey : Tuple → Tuples → Type 0
  HaveKey k rows = All (λ t. key_of key t ≡ k) rows

  with_key-key : (k : Tuple) (rows : Tuples) → HaveKey k (with_key key k rows)
  with_key-key k rows =
      All-weaker (λ t. has_key key k t ≡ true) (λ t. key_of key t ≡ k) (λ t e. (Decides-tuple_eq (key_of key t) k).0 e) (with_key key k rows) (filter_passes (has_key key k) rows)

  with_key-other : (j k : Tuple) → tuple_eq j k ≡ false → (rows : Tuples) → HaveKey j rows → with_key key k rows ≡ []
  with_key-other j k e [] h = refl
  with_key-other j k e (t ∷ rows) h =
      let same : key_of key t ≡ j = All-head (λ t. key_of key t ≡ j) t rows h in
      ap (λ b. cond b (t ∷ with_key key k rows) (with_key key k rows)) (ap (λ u. tuple_eq u k) same ∙ e)
      ∙ with_key-other j k e rows (All-tail (λ t. key_of key t ≡ j) t rows h)

  with_key-length : (k : Tuple) (rows : Tuples) → length (with_key key k rows) ≤ length rows
  with_key-length k [] = omega arith
  with_key-length k (t ∷ rows) = go (has_key key k t) (with_key-length k rows)
    where
      go : (b : Bool) → length (with_key key k rows) ≤ length rows → length (cond b (t ∷ with_key key k rows) (with_key key k rows)) ≤ length (t ∷ rows)
      go true h = omega arith
      go false h = omega arith

  -- rows made for each of some keys, at most one of each key
  module _ (made : Tuple → Tuples) (own : (k : Tuple) → HaveKey k (made k)) (one : (k : Tuple) → length (made k) ≤ 1) where
    none_made : (k : Tuple) (ks : Tuples) → AllByRecursion (λ j. tuple_eq j k ≡ false) ks → with_key key k (flat_map made ks) ≡ []
    none_made k [] h = refl
    none_made k (j ∷ ks) h =
        filter-append (has_key key k) (made j) (flat_map made ks) ∙ ap (λ us. us ++ with_key key k (flat_map made ks)) (with_key-other j k h.0 (made j) (own j)) ∙ none_made k ks h.1

    single_made : (ks : Tuples) → StandOnce ks → HasSingleKeys key (flat_map made ks)
    single_made [] h k = omega arith
    single_made (j ∷ ks) h k = go (tuple_eq j k) refl (single_made ks h.1 k)
      where
        both : with_key key k (flat_map made (j ∷ ks)) ≡ with_key key k (made j) ++ with_key key k (flat_map made ks)
        both = filter-append (has_key key k) (made j) (flat_map made ks)

        go : (b : Bool) → tuple_eq j k ≡ b → length (with_key key k (flat_map made ks)) ≤ 1 → length (with_key key k (flat_map made (j ∷ ks))) ≤ 1
        go true e rest =
            let same : j ≡ k = (Decides-tuple_eq j k).0 e in
            let none : with_key key k (flat_map made ks) ≡ [] = none_made k ks (subst (λ i. AllByRecursion (λ t. tuple_eq t i ≡ false) ks) same h.0) in
            omega (arith, ap length both, length-append (with_key key k (made j)) (with_key key k (flat_map made ks)), ap length none, with_key-length k (made j), one j)
        go false e rest =
            let none : with_key key k (made j) ≡ [] = with_key-other j k e (made j) (own j) in
            omega (arith, ap length both, length-append (with_key key k (made j)) (with_key key k (flat_map made ks)), ap length none, rest)

  greatest_row-key : (order : List OrderItem) (k : Tuple) (rows : Tuples) → HaveKey k rows → HaveKey k (greatest_row order rows)
  greatest_row-key order k rows h =
      last_row-fit (λ t. key_of key t ≡ k) (sort_by (rank_cmp order) rows) (All-sort (λ t. key_of key t ≡ k) (rank_cmp order) rows h)

  last_row-one : (rows : Tuples) → length (last_row rows) ≤ 1
  last_row-one [] = omega arith
  last_row-one (t ∷ []) = omega arith
  last_row-one (t ∷ u ∷ rows) = last_row-one (u ∷ rows)

  pub chosen-single : (order : List OrderItem) (rows : Tuples) → HasSingleKeys key (chosen key order rows)
  chosen-single order rows =
      single_made (λ k. greatest_row order (with_key key k rows)) (λ k. greatest_row-key order k (with_key key k rows) (with_key-key k rows))
      (λ k. last_row-one (sort_by (rank_cmp order) (with_key key k rows))) (keys_in key rows) (each_once-once (map (key_of key) rows))

  candidates-key : (merge : MergeRule) (k : Tuple) (old deltas : Tuples) → HaveKey k old → HaveKey k deltas → HaveKey k (candidates merge old deltas)
  candidates-key rule.Replace k old deltas g h = h
  candidates-key rule.Greatest k old deltas g h = All-append (λ t. key_of key t ≡ k) old deltas g h

  next_entry-key : (order : List OrderItem) (merge : MergeRule) (k : Tuple) (old deltas : Tuples) → HaveKey k old → HaveKey k deltas → HaveKey k (next_entry order merge old deltas)
  next_entry-key order merge k old [] g h = g
  next_entry-key order merge k old (d ∷ deltas) g h =
      greatest_row-key order k (candidates merge old (d ∷ deltas)) (candidates-key merge k old (d ∷ deltas) g h)

  next_entry-one : (order : List OrderItem) (merge : MergeRule) (old deltas : Tuples) → length old ≤ 1 → length (next_entry order merge old deltas) ≤ 1
  next_entry-one order merge old [] h = h
  next_entry-one order merge old (d ∷ deltas) h = last_row-one (sort_by (rank_cmp order) (candidates merge old (d ∷ deltas)))

  pub merged-single : (order : List OrderItem) (merge : MergeRule) (old deltas : Tuples) → HasSingleKeys key old → HasSingleKeys key (merged key order merge old deltas)
  merged-single order merge old deltas h =
      single_made (λ k. next_entry order merge (with_key key k old) (with_key key k deltas))
      (λ k. next_entry-key order merge k (with_key key k old) (with_key key k deltas) (with_key-key k old) (with_key-key k deltas))
      (λ k. next_entry-one order merge (with_key key k old) (with_key key k deltas) (h k))
      (keys_in key (old ++ deltas)) (each_once-once (map (key_of key) (old ++ deltas)))
