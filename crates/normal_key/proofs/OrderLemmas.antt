-- The order by a key is total, and a smaller prefix stands first.
use Rattle.std.proofs.Common.{◌≡◌, ◌≢◌, ℕ, zero, suc, Bool, true, false, cond, List, [], ◌∷◌, ◌++◌, map, take, refl, sym, ◌∙◌, ap, replicate, append_assoc, IsTrue}
use Rattle.std.specs.Prelude.{slice_index_or}
use Rattle.std.specs.List.{flat_map, list_all}
use Rattle.std.specs.Cmp.{IsTotalOrder}
use Rattle.std.specs.Cmp.Lexicographic.{slice_cmp}
use Rattle.std.specs.Ordering.{nat_cmp, ordering_then}
use Rattle.std.specs.declared.cmp.Ordering.{Ordering}
use Rattle.std.specs.declared.cmp.Ordering.TheVariants.{Less, Equal, Greater}
use Rattle.std.proofs.lemmas.Bool.{and_parts}
use Rattle.std.proofs.lemmas.Cmp.{then_total, on_total}
use Rattle.flow_types.specs.declared.value.Value.{Value}
use Rattle.flow_types.specs.declared.field_type.FieldType.{FieldType}
use Rattle.flow_types.specs.declared.field_type.FieldType.TheVariants as type
use Rattle.flow_types.specs.declared.order_item.OrderItem.{OrderItem}
use Rattle.flow_types.specs.Values.{value_cmp, is_value}
use Rattle.flow_types.specs.Types.{Fields, fits, fits_field}
use Rattle.flow_types.specs.Tuples.{Tuple, field, item_cmp, rank_cmp, tuple_cmp}
use Rattle.flow_types.specs.Records.{tuple_of, IsTupleOf}
use Rattle.flow_types.proofs.RankLaws.{item_cmp_total, rank_cmp_total}
use Rattle.flow_types.proofs.ValueLemmas.{value-field}
use Rattle.normal_key.specs.Fits.{is_record}
use Rattle.normal_key.specs.Comparisons.{ascending, steps, items_cmp, key_cmp}
use Rattle.normal_key.specs.NormalForms.{normal_form, directed_form, items_form, whole_form, key_form, key_prefix}
use Rattle.normal_key.specs.Laws.{IsPrefixed}
use Rattle.normal_key.proofs.TurnedLemmas.{plain_turned}
use Rattle.normal_key.proofs.FormLemmas.{directed_first}
use Rattle.normal_key.proofs.FitLemmas.{record_from_test}

-- ---- totality

ties_total : {K : Type 0} → IsTotalOrder (λ (x y : K). Equal)
ties_total = record { antisymm = λ x y. refl; trans = λ x y z h k. h; congr = λ x y z h. refl }

items_total : (items : List OrderItem) → IsTotalOrder (items_cmp items)
items_total [] = ties_total
items_total (i ∷ items) = then_total (item_cmp_total i) (items_total items)

tuples_total : (key : List ℕ) (items : List OrderItem) (whole : Bool) → IsTotalOrder (key_cmp key items whole)
tuples_total key items true = rank_cmp_total (steps key items)
tuples_total key items false = items_total (steps key items)

key_total : (fields : Fields) (key : List ℕ) (items : List OrderItem) (whole : Bool)
    → IsTotalOrder (λ (a b : List ℕ). key_cmp key items whole (tuple_of fields a) (tuple_of fields b))
key_total fields key items whole = on_total (tuple_of fields) (tuples_total key items whole)

-- ---- chains of orders

pub then_assoc : (o p q : Ordering) → ordering_then (ordering_then o p) q ≡ ordering_then o (ordering_then p q)
then_assoc Less p q = refl
then_assoc Equal p q = refl
then_assoc Greater p q = refl

pub then_equal : (o : Ordering) → ordering_then o Equal ≡ o
then_equal Less = refl
then_equal Equal = refl
then_equal Greater = refl

-- the order by the whole tuple where it is wanted
abbrev pub whole_cmp : Bool → Tuple → Tuple → Ordering
whole_cmp whole t u = cond whole (tuple_cmp t u) Equal

rank_parts : (items : List OrderItem) (t u : Tuple) → rank_cmp items t u ≡ ordering_then (items_cmp items t u) (tuple_cmp t u)
rank_parts [] t u = refl
rank_parts (i ∷ items) t u =
    ap (ordering_then (item_cmp i t u)) (rank_parts items t u) ∙ sym (then_assoc (item_cmp i t u) (items_cmp items t u) (tuple_cmp t u))

pub key_parts : (key : List ℕ) (items : List OrderItem) (whole : Bool) (t u : Tuple)
    → key_cmp key items whole t u ≡ ordering_then (items_cmp (steps key items) t u) (whole_cmp whole t u)
key_parts key items true t u = rank_parts (steps key items) t u
key_parts key items false t u = sym (then_equal (items_cmp (steps key items) t u))

items_append : (front back : List OrderItem) (t u : Tuple) → items_cmp (front ++ back) t u ≡ ordering_then (items_cmp front t u) (items_cmp back t u)
items_append [] back t u = refl
items_append (i ∷ front) back t u =
    ap (ordering_then (item_cmp i t u)) (items_append front back t u)
    ∙ sym (then_assoc (item_cmp i t u) (items_cmp front t u) (items_cmp back t u))

-- the order is that by the key, then by the items, and then by the whole tuple
key_split : (key : List ℕ) (items : List OrderItem) (whole : Bool) (t u : Tuple)
    → key_cmp key items whole t u
    ≡ ordering_then (items_cmp (map ascending key) t u) (ordering_then (items_cmp items t u) (whole_cmp whole t u))
key_split key items whole t u =
    key_parts key items whole t u
    ∙ ap (λ (o : Ordering). ordering_then o (whole_cmp whole t u)) (items_append (map ascending key) items t u)
    ∙ then_assoc (items_cmp (map ascending key) t u) (items_cmp items t u) (whole_cmp whole t u)

-- what differs decides, and what is equal is passed over
first_decides : (o p q r all : Ordering) → all ≡ ordering_then p (ordering_then q r) → o ≡ p → o ≢ Equal → o ≡ all
first_decides o p q r all is told differ =
    go o differ ∙ ap (λ (x : Ordering). ordering_then x (ordering_then q r)) told ∙ sym is
  where
    go : (x : Ordering) → x ≢ Equal → x ≡ ordering_then x (ordering_then q r)
    go Less other = refl
    go Equal other = absurd (other refl)
    go Greater other = refl

second_decides : (o one p q r all : Ordering) → all ≡ ordering_then p (ordering_then q r) → one ≡ p → one ≡ Equal → o ≡ q → o ≢ Equal → o ≡ all
second_decides o one p q r all is told same next differ =
    first_decides o q r Equal all
    (is ∙ ap (λ (x : Ordering). ordering_then x (ordering_then q r)) (sym told ∙ same) ∙ ap (ordering_then q) (sym (then_equal r)))
    next differ

third_decides : (o one two p q r all : Ordering) → all ≡ ordering_then p (ordering_then q r) → one ≡ p → one ≡ Equal
    → two ≡ q → two ≡ Equal → o ≡ r → o ≡ all
third_decides o one two p q r all is told same next also last =
    last
    ∙ sym (is ∙ ap (λ (x : Ordering). ordering_then x (ordering_then q r)) (sym told ∙ same)
    ∙ ap (λ (x : Ordering). ordering_then x r) (sym next ∙ also))

module _ (key : List ℕ) (items : List OrderItem) (whole : Bool) (t u : Tuple) (o : Ordering) where
  -- the key decides
  pub by_key : o ≡ items_cmp (map ascending key) t u → o ≢ Equal → o ≡ key_cmp key items whole t u
  by_key told differ =
      first_decides o (items_cmp (map ascending key) t u) (items_cmp items t u) (whole_cmp whole t u) (key_cmp key items whole t u)
      (key_split key items whole t u) told differ

  -- the items decide
  pub by_items : (one : Ordering) → one ≡ items_cmp (map ascending key) t u → one ≡ Equal → o ≡ items_cmp items t u → o ≢ Equal
      → o ≡ key_cmp key items whole t u
  by_items one told same next differ =
      second_decides o one (items_cmp (map ascending key) t u) (items_cmp items t u) (whole_cmp whole t u) (key_cmp key items whole t u)
      (key_split key items whole t u) told same next differ

  -- the whole tuple decides
  pub by_whole : (one two : Ordering) → one ≡ items_cmp (map ascending key) t u → one ≡ Equal → two ≡ items_cmp items t u → two ≡ Equal
      → o ≡ whole_cmp whole t u → o ≡ key_cmp key items whole t u
  by_whole one two told same next also last =
      third_decides o one two (items_cmp (map ascending key) t u) (items_cmp items t u) (whole_cmp whole t u) (key_cmp key items whole t u)
      (key_split key items whole t u) told same next also last

-- ---- forms of what is compared

-- a field of a tuple that fits has its kind; one past the end is a Long
field_fits : (fields : Fields) (t : Tuple) (k : ℕ) → IsTrue (fits fields t) → IsTrue (fits_field (slice_index_or fields k type.Long) (field k t))
field_fits [] [] k fit = refl
field_fits [] (v ∷ t) k fit = cc
field_fits (f ∷ fs) [] k fit = cc
field_fits (f ∷ fs) (v ∷ t) zero fit = (and_parts (fits_field f v) (fits fs t) fit).0
field_fits (f ∷ fs) (v ∷ t) (suc k) fit = field_fits fs t k (and_parts (fits_field f v) (fits fs t) fit).1

module _ (fields : Fields) (t u : Tuple) (left : IsTupleOf fields t) (right : IsTupleOf fields u) where
  item_first : (i : OrderItem) (xs ys : List ℕ)
      → slice_cmp nat_cmp (directed_form i.down (field i.field t) ++ xs) (directed_form i.down (field i.field u) ++ ys)
      ≡ ordering_then (item_cmp i t u) (slice_cmp nat_cmp xs ys)
  item_first i xs ys =
      directed_first i.down (slice_index_or fields i.field type.Long) (field i.field t) (field i.field u) xs ys
      (field_fits fields t i.field left.fitting) (field_fits fields u i.field right.fitting)
      (value-field i.field t left.values) (value-field i.field u right.values)

  items_first : (items : List OrderItem) (xs ys : List ℕ)
      → slice_cmp nat_cmp (items_form items t ++ xs) (items_form items u ++ ys) ≡ ordering_then (items_cmp items t u) (slice_cmp nat_cmp xs ys)
  items_first [] xs ys = refl
  items_first (i ∷ items) xs ys =
      let a : List ℕ = directed_form i.down (field i.field t) in
      let b : List ℕ = directed_form i.down (field i.field u) in
      ap (λ (bs : List ℕ). slice_cmp nat_cmp bs ((b ++ items_form items u) ++ ys)) (append_assoc a (items_form items t) xs)
      ∙ ap (slice_cmp nat_cmp (a ++ (items_form items t ++ xs))) (append_assoc b (items_form items u) ys)
      ∙ item_first i (items_form items t ++ xs) (items_form items u ++ ys)
      ∙ ap (ordering_then (item_cmp i t u)) (items_first items xs ys)
      ∙ sym (then_assoc (item_cmp i t u) (items_cmp items t u) (slice_cmp nat_cmp xs ys))

-- a value's form as it is
value_first : (f : FieldType) (v w : Value) (xs ys : List ℕ) → IsTrue (fits_field f v) → IsTrue (fits_field f w) → IsTrue (is_value v) → IsTrue (is_value w)
    → slice_cmp nat_cmp (normal_form v ++ xs) (normal_form w ++ ys) ≡ ordering_then (value_cmp v w) (slice_cmp nat_cmp xs ys)
value_first f v w xs ys left right one other =
    ap (λ (bs : List ℕ). slice_cmp nat_cmp (bs ++ xs) (normal_form w ++ ys)) (sym (plain_turned (normal_form v)))
    ∙ ap (λ (bs : List ℕ). slice_cmp nat_cmp (directed_form false v ++ xs) (bs ++ ys)) (sym (plain_turned (normal_form w)))
    ∙ directed_first false f v w xs ys left right one other

tuple_first : (fields : Fields) (t u : Tuple) (xs ys : List ℕ) → IsTrue (fits fields t) → IsTrue (fits fields u)
    → IsTrue (list_all is_value t) → IsTrue (list_all is_value u)
    → slice_cmp nat_cmp (flat_map normal_form t ++ xs) (flat_map normal_form u ++ ys) ≡ ordering_then (tuple_cmp t u) (slice_cmp nat_cmp xs ys)
tuple_first [] [] [] xs ys left right one other = refl
tuple_first [] (v ∷ t) u xs ys left right one other = cc
tuple_first [] [] (w ∷ u) xs ys left right one other = cc
tuple_first (f ∷ fs) [] u xs ys left right one other = cc
tuple_first (f ∷ fs) (v ∷ t) [] xs ys left right one other = cc
tuple_first (f ∷ fs) (v ∷ t) (w ∷ u) xs ys left right one other =
    let l : (fits_field f v ≡ true) × (fits fs t ≡ true) = and_parts (fits_field f v) (fits fs t) left in
    let r : (fits_field f w ≡ true) × (fits fs u ≡ true) = and_parts (fits_field f w) (fits fs u) right in
    let m : (is_value v ≡ true) × (list_all is_value t ≡ true) = and_parts (is_value v) (list_all is_value t) one in
    let n : (is_value w ≡ true) × (list_all is_value u ≡ true) = and_parts (is_value w) (list_all is_value u) other in
    let back : List ℕ = flat_map normal_form t in
    let rest : List ℕ = flat_map normal_form u in
    ap (λ (bs : List ℕ). slice_cmp nat_cmp bs ((normal_form w ++ rest) ++ ys)) (append_assoc (normal_form v) back xs)
    ∙ ap (slice_cmp nat_cmp (normal_form v ++ (back ++ xs))) (append_assoc (normal_form w) rest ys)
    ∙ value_first f v w (back ++ xs) (rest ++ ys) l.0 r.0 m.0 n.0
    ∙ ap (ordering_then (value_cmp v w)) (tuple_first fs t u xs ys l.1 r.1 m.1 n.1)
    ∙ sym (then_assoc (value_cmp v w) (tuple_cmp t u) (slice_cmp nat_cmp xs ys))

whole_first : (fields : Fields) (t u : Tuple) (whole : Bool) (xs ys : List ℕ) → IsTupleOf fields t → IsTupleOf fields u
    → slice_cmp nat_cmp (whole_form whole t ++ xs) (whole_form whole u ++ ys) ≡ ordering_then (whole_cmp whole t u) (slice_cmp nat_cmp xs ys)
whole_first fields t u true xs ys left right = tuple_first fields t u xs ys left.fitting right.fitting left.values right.values
whole_first fields t u false xs ys left right = refl

key_first : (fields : Fields) (t u : Tuple) (key : List ℕ) (items : List OrderItem) (whole : Bool) (xs ys : List ℕ)
    → IsTupleOf fields t → IsTupleOf fields u
    → slice_cmp nat_cmp (key_form key items whole t ++ xs) (key_form key items whole u ++ ys)
    ≡ ordering_then (key_cmp key items whole t u) (slice_cmp nat_cmp xs ys)
key_first fields t u key items whole xs ys left right =
    let a : List ℕ = items_form (steps key items) t in
    let b : List ℕ = items_form (steps key items) u in
    let o : Ordering = items_cmp (steps key items) t u in
    ap (λ (bs : List ℕ). slice_cmp nat_cmp bs ((b ++ whole_form whole u) ++ ys)) (append_assoc a (whole_form whole t) xs)
    ∙ ap (slice_cmp nat_cmp (a ++ (whole_form whole t ++ xs))) (append_assoc b (whole_form whole u) ys)
    ∙ items_first fields t u left right (steps key items) (whole_form whole t ++ xs) (whole_form whole u ++ ys)
    ∙ ap (ordering_then o) (whole_first fields t u whole xs ys left right)
    ∙ sym (then_assoc o (whole_cmp whole t u) (slice_cmp nat_cmp xs ys))
    ∙ ap (λ (p : Ordering). ordering_then p (slice_cmp nat_cmp xs ys)) (sym (key_parts key items whole t u))

-- ---- prefixes

-- what is less in its first bytes is less
front_less : (n : ℕ) (xs ys : List ℕ) → slice_cmp nat_cmp (take n xs) (take n ys) ≡ Less → slice_cmp nat_cmp xs ys ≡ Less
front_less zero xs ys less = cc
front_less (suc n) [] [] less = less
front_less (suc n) [] (y ∷ ys) less = refl
front_less (suc n) (x ∷ xs) [] less = less
front_less (suc n) (x ∷ xs) (y ∷ ys) less = go (nat_cmp x y) less (front_less n xs ys)
  where
    go : (o : Ordering) → ordering_then o (slice_cmp nat_cmp (take n xs) (take n ys)) ≡ Less
        → (slice_cmp nat_cmp (take n xs) (take n ys) ≡ Less → slice_cmp nat_cmp xs ys ≡ Less)
        → ordering_then o (slice_cmp nat_cmp xs ys) ≡ Less
    go Less less rest = refl
    go Equal less rest = rest less
    go Greater less rest = less

smaller_prefix : (fields : Fields) (key : List ℕ) (items : List OrderItem) (whole : Bool) (a b : List ℕ)
    → IsTrue (is_record fields a) → IsTrue (is_record fields b)
    → slice_cmp nat_cmp (key_prefix key items whole (tuple_of fields a)) (key_prefix key items whole (tuple_of fields b)) ≡ Less
    → key_cmp key items whole (tuple_of fields a) (tuple_of fields b) ≡ Less
smaller_prefix fields key items whole a b left right less =
    let t : Tuple = tuple_of fields a in
    let u : Tuple = tuple_of fields b in
    let zeros : List ℕ = replicate 16 0 in
    sym (key_first fields t u key items whole zeros zeros (record_from_test fields a left).tuple (record_from_test fields b right).tuple
    ∙ then_equal (key_cmp key items whole t u))
    ∙ front_less 16 (key_form key items whole t ++ zeros) (key_form key items whole u ++ zeros) less

pub is_prefixed : (fields : Fields) (key : List ℕ) (items : List OrderItem) (whole : Bool) → IsPrefixed fields key items whole
is_prefixed fields key items whole = record {
  total = key_total fields key items whole;
  smaller = smaller_prefix fields key items whole;
}
