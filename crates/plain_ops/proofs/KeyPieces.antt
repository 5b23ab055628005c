-- Rows in the order of their keys: those of one key stand together, and a stable sort keeps them as they stood.
use Rattle.std.proofs.Common.{◌≡◌, ℕ, ◌+◌, ◌-◌, ◌≤◌, ◌<◌, ◌⊎◌, inl, inr, Bool, true, false, cond, not, ◌&&◌, ◌||◌, List, [], ◌∷◌, ◌++◌, length, get_or, take, drop, filter, refl, sym, ap, ◌∙◌, arith, IsPermutation, All}
use Rattle.std.specs.Cmp.{IsTotalOrder}
use Rattle.std.specs.List.{list_any}
use Rattle.std.specs.List.Sorted.{ties, IsStableByKey, IsPartitionPoint, IsPartitionedBy, IsNonDecreasingBy}
use Rattle.std.specs.Ordering.{is_lt, is_eq, nat_cmp, ordering_index, ordering_reverse}
use Rattle.std.specs.declared.cmp.Ordering.{Ordering}
use Rattle.std.specs.declared.cmp.Ordering.TheVariants.{Less, Equal, Greater}
use Rattle.std.proofs.lemmas.Bool.{or_parts}
use Rattle.std.proofs.lemmas.Bool.Decides.{nat_tests}
use Rattle.std.proofs.lemmas.List.{drop_all, drop_more, length-take, length-drop, get_or-take, get_or-drop, take-append-drop, append-nil}
use Rattle.std.proofs.lemmas.List.Elements.{All-head, All-tail, filter-append, filter_agree}
use Rattle.std.proofs.lemmas.List.Sorted.{list_any-IsPermutation, IsNonDecreasingBy-drop, searchable_from_sorted}
use Rattle.flow_types.specs.Tuples.{Tuple, key_of, tuple_cmp}
use Rattle.flow_types.proofs.OrderLaws.{tuple_cmp_total}
use Rattle.flow_model.specs.Env.{Tuples}
use Rattle.plain_ops.specs.Indexes.{AscendsByKey, KeepsKeys}

module _ {X : Type 0} (p : X → Bool) where
  filter_all : (xs : List X) → All (λ x. p x ≡ true) xs → filter p xs ≡ xs
  filter_all [] h = refl
  filter_all (x ∷ xs) h =
      ap (λ b. cond b (x ∷ filter p xs) (filter p xs)) (All-head (λ y. p y ≡ true) x xs h) ∙ ap (λ l. x ∷ l) (filter_all xs (All-tail (λ y. p y ≡ true) x xs h))

  filter_none : (xs : List X) → All (λ x. p x ≡ false) xs → filter p xs ≡ []
  filter_none [] h = refl
  filter_none (x ∷ xs) h =
      ap (λ b. cond b (x ∷ filter p xs) (filter p xs)) (All-head (λ y. p y ≡ false) x xs h) ∙ filter_none xs (All-tail (λ y. p y ≡ false) x xs h)

  filter_not_any : (xs : List X) → list_any p xs ≡ false → filter p xs ≡ []
  filter_not_any [] h = refl
  filter_not_any (x ∷ xs) h =
      let both = or_parts (p x) (list_any p xs) h in
      ap (λ b. cond b (x ∷ filter p xs) (filter p xs)) both.0 ∙ filter_not_any xs both.1

  -- an element that passes, where there is one
  one_or_none : (xs : List X) → ((x : X) × (p x ≡ true)) ⊎ (list_any p xs ≡ false)
  one_or_none [] = inr refl
  one_or_none (x ∷ xs) = go (p x) refl (one_or_none xs)
    where
      go : (b : Bool) → p x ≡ b → ((y : X) × (p y ≡ true)) ⊎ (list_any p xs ≡ false) → ((y : X) × (p y ≡ true)) ⊎ ((b || list_any p xs) ≡ false)
      go true e rest = inl (x, e)
      go false e (inl one) = inl one
      go false e (inr none) = inr none

-- a key that ends before the numbers do is below
pub key_ends : (numbers : List ℕ) (key t : Tuple) (i : ℕ) → i < length numbers → length key ≤ i → tuple_cmp (key_of numbers t) key ≡ tuple_cmp (key_of (drop i numbers) t) (drop i key) → Greater ≡ tuple_cmp (key_of numbers t) key
key_ends numbers key t i within short same =
    sym (same ∙ ap (λ k. tuple_cmp (key_of (drop i numbers) t) k) (drop_all i key short) ∙ ap (λ ns. tuple_cmp (key_of ns t) []) (drop_more numbers i 0 within))

rest_decides : (rest : Tuple) (m n : ℕ) → m ≤ n → length rest ≡ n - m → nat_cmp m n ≡ tuple_cmp [] rest
rest_decides [] m n le long = grind (arith, nat_tests)
rest_decides (v ∷ rest) m n le long = grind (arith, nat_tests)

-- at the end of the numbers the lengths decide
pub numbers_end : (numbers : List ℕ) (key t : Tuple) (i : ℕ) → i ≤ length numbers → length numbers ≤ i → i ≤ length key → tuple_cmp (key_of numbers t) key ≡ tuple_cmp (key_of (drop i numbers) t) (drop i key) → nat_cmp (length numbers) (length key) ≡ tuple_cmp (key_of numbers t) key
numbers_end numbers key t i low high within same =
    let long = length-drop i key in
    rest_decides (drop i key) (length numbers) (length key) (omega arith) (omega arith) ∙ sym (same ∙ ap (λ ns. tuple_cmp (key_of ns t) (drop i key)) (drop_all i numbers high))

ties_is_eq : (o : Ordering) → not (is_lt o) && not (is_lt (ordering_reverse o)) ≡ is_eq o
ties_is_eq Less = refl
ties_is_eq Equal = refl
ties_is_eq Greater = refl

is_equal : (o : Ordering) → is_eq o ≡ true → o ≡ Equal
is_equal Less e = cc
is_equal Equal e = refl
is_equal Greater e = cc

reversed_is_eq : (o : Ordering) → is_eq (ordering_reverse o) ≡ is_eq o
reversed_is_eq Less = refl
reversed_is_eq Equal = refl
reversed_is_eq Greater = refl

-- what ties with an element of a key is what has the key
module _ {X K : Type 0} (key : X → K) (cmp : K → K → Ordering) (o : IsTotalOrder cmp) (k : K) where
  abbrev has : X → Bool
  has x = is_eq (cmp (key x) k)

  ties_with : (x : X) → has x ≡ true → (y : X) → ties (λ a b. is_lt (cmp (key a) (key b))) x y ≡ has y
  ties_with x e y =
      ap (λ r. not (is_lt (cmp (key x) (key y))) && not (is_lt r)) (o.antisymm (key y) (key x))
      ∙ ties_is_eq (cmp (key x) (key y))
      ∙ ap is_eq (o.congr (key x) k (key y) (is_equal (cmp (key x) k) e) ∙ o.antisymm k (key y))
      ∙ reversed_is_eq (cmp (key y) k)

  keeps : (xs ys : List X) → IsPermutation xs ys → IsStableByKey key cmp xs ys → filter has ys ≡ filter has xs
  keeps xs ys moved stable = elim (one_or_none has xs) [
    | inl one ↦
        let agree = ties_with one.0 one.1 in
        sym (filter_agree (ties (λ a b. is_lt (cmp (key a) (key b))) one.0) has agree ys) ∙ stable one.0 ∙ filter_agree (ties (λ a b. is_lt (cmp (key a) (key b))) one.0) has agree xs
    | inr none ↦ filter_not_any has ys (sym (list_any-IsPermutation has xs ys moved) ∙ none) ∙ sym (filter_not_any has xs none)
  ]

-- a stable sort by the keys keeps the rows of each key in their order
pub keeps_keys : (numbers : List ℕ) (xs ys : Tuples) → IsPermutation xs ys → IsStableByKey (key_of numbers) tuple_cmp xs ys → KeepsKeys numbers xs ys
keeps_keys numbers xs ys moved stable key = keeps (key_of numbers) tuple_cmp tuple_cmp_total key xs ys moved stable

lower : (r s : Ordering) → ordering_index r ≤ ordering_index s → is_lt s ≡ true → is_lt r ≡ true
lower Less s le h = refl
lower Equal Less le h = absurd (omega (arith, le))
lower Equal Equal le h = h
lower Equal Greater le h = h
lower Greater Less le h = absurd (omega (arith, le))
lower Greater Equal le h = h
lower Greater Greater le h = h

level : (r s : Ordering) → ordering_index r ≤ ordering_index s → is_lt r ≡ false → is_eq s ≡ true → is_eq r ≡ true
level Less s le low h = cc
level Equal s le low h = refl
level Greater Less le low h = h
level Greater Equal le low h = absurd (omega (arith, le))
level Greater Greater le low h = h

not_eq : (r : Ordering) → is_lt r ≡ true → is_eq r ≡ false
not_eq Less h = refl
not_eq Equal h = cc
not_eq Greater h = refl

-- where answers rise along a list, those that are `Equal` are one piece of it
module _ {X : Type 0} (o : X → Ordering) (xs : List X) (rises : IsNonDecreasingBy (λ x. ordering_index (o x)) xs) where
  pub parted_below : IsPartitionedBy (λ x. is_lt (o x)) xs
  parted_below i j d le within h = lower (o (get_or xs i d)) (o (get_or xs j d)) (rises i j d le within) h

  module _ (start : ℕ) (at : IsPartitionPoint (λ x. is_lt (o x) ≡ true) (λ x. is_lt (o x) ≡ false) xs start) where
    pub parted_equal : IsPartitionedBy (λ x. is_eq (o x)) (drop start xs)
    parted_equal i j d le within h =
        let long = length-drop start xs in
        let up : ordering_index (o (get_or (drop start xs) i d)) ≤ ordering_index (o (get_or (drop start xs) j d)) = IsNonDecreasingBy-drop (λ x. ordering_index (o x)) start xs rises i j d le within in
        level (o (get_or (drop start xs) i d)) (o (get_or (drop start xs) j d)) up (ap (λ x. is_lt (o x)) (get_or-drop start xs i d) ∙ at.1 (start + i) d (omega arith) (omega arith)) h

    pub piece_is : (count : ℕ) → IsPartitionPoint (λ x. is_eq (o x) ≡ true) (λ x. is_eq (o x) ≡ false) (drop start xs) count → take count (drop start xs) ≡ filter (λ x. is_eq (o x)) xs
    piece_is count end =
        let rest : List X = drop start xs in
        let p : X → Bool = λ x. is_eq (o x) in
        let below : filter p (take start xs) ≡ [] = filter_none p (take start xs) (λ k d within. let long = length-take start xs in ap p (get_or-take start xs k d (omega arith)) ∙ not_eq (o (get_or xs k d)) (at.0 k d (omega arith) (omega arith))) in
        let here : filter p (take count rest) ≡ take count rest = filter_all p (take count rest) (λ k d within. let long = length-take count rest in ap p (get_or-take count rest k d (omega arith)) ∙ end.0 k d (omega arith) (omega arith)) in
        let above : filter p (drop count rest) ≡ [] = filter_none p (drop count rest) (λ k d within. let long = length-drop count rest in ap p (get_or-drop count rest k d) ∙ end.1 (count + k) d (omega arith) (omega arith)) in
        sym (ap (filter p) (sym (take-append-drop start xs))
        ∙ filter-append p (take start xs) rest
        ∙ ap (λ l. l ++ filter p rest) below
        ∙ ap (filter p) (sym (take-append-drop count rest))
        ∙ filter-append p (take count rest) (drop count rest)
        ∙ ap (λ l. l ++ filter p (drop count rest)) here
        ∙ ap (λ l. take count rest ++ l) above
        ∙ append-nil (take count rest))

-- how the keys of rows compare with a key
abbrev pub beside : List ℕ → Tuple → Tuple → Ordering
beside numbers key t = tuple_cmp (key_of numbers t) key

pub rises_beside : (numbers : List ℕ) (key : Tuple) (rows : Tuples) → AscendsByKey numbers rows → IsNonDecreasingBy (λ t. ordering_index (beside numbers key t)) rows
rises_beside numbers key rows up = searchable_from_sorted tuple_cmp_total (key_of numbers) rows key up
