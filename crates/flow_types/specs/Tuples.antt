use Rattle.std.specs.Prelude.{ℕ, Bool, List, [], ◌∷◌, pos, map, if◌then◌else◌, slice_index_or}
use Rattle.std.specs.Cmp.Lexicographic.{slice_cmp}
use Rattle.std.specs.Ordering.{ordering_then, is_eq}
use Rattle.std.specs.declared.cmp.Ordering.{Ordering}
use Rattle.flow_types.specs.declared.value.Value.{Value}
use Rattle.flow_types.specs.declared.value.Value.TheVariants as value
use Rattle.flow_types.specs.declared.order_item.OrderItem.{OrderItem}
use Rattle.flow_types.specs.Values.{value_cmp}

-- A tuple is a list of values.
abbrev pub Tuple : Type 0
Tuple = List Value

-- the order of tuples: by the first field in which they differ
abbrev pub tuple_cmp : Tuple → Tuple → Ordering
tuple_cmp = slice_cmp value_cmp

-- two tuples are the same
abbrev pub tuple_eq : Tuple → Tuple → Bool
tuple_eq t u = is_eq (tuple_cmp t u)

-- the value of a field, by its number from 0; the Long 0 past the end
abbrev pub field : ℕ → Tuple → Value
field k t = slice_index_or t k (value.Long (pos 0))

-- the values of a tuple at a key's field numbers
abbrev pub key_of : List ℕ → Tuple → Tuple
key_of numbers t = map (λ k. field k t) numbers

-- how one item of an order compares two tuples; `down` turns it round
abbrev pub item_cmp : OrderItem → Tuple → Tuple → Ordering
item_cmp i t u = if i.down then value_cmp (field i.field u) (field i.field t) else value_cmp (field i.field t) (field i.field u)

-- the rank of tuples: by the first item in which they differ, and then by the whole tuple, so that only
-- equal tuples tie
abbrev pub rank_cmp : List OrderItem → Tuple → Tuple → Ordering
rank_cmp [] t u = tuple_cmp t u
rank_cmp (i ∷ items) t u = ordering_then (item_cmp i t u) (rank_cmp items t u)
