use Rattle.std.specs.Prelude.{ℕ, Bool, false, if◌then◌else◌, List, [], ◌∷◌, ◌++◌, map}
use Rattle.std.specs.Ordering.{ordering_then}
use Rattle.std.specs.declared.cmp.Ordering.{Ordering}
use Rattle.std.specs.declared.cmp.Ordering.TheVariants.{Equal}
use Rattle.flow_types.specs.declared.order_item.OrderItem.{OrderItem}
use Rattle.flow_types.specs.Tuples.{Tuple, item_cmp, rank_cmp}

-- Orders by a key and by the items of an order. The order by items and then by the whole tuple is this
-- project's own, `rank_cmp`.

-- an item by which the lesser values of a field stand first
abbrev pub ascending : ℕ → OrderItem
ascending k = record { field = k; down = false }

-- what is compared, one after the other: the fields of a key, and then the items of an order
abbrev pub steps : List ℕ → List OrderItem → List OrderItem
steps key items = map ascending key ++ items

-- the order of tuples by the first item in which they differ; tuples that differ in none are equal to it
abbrev pub items_cmp : List OrderItem → Tuple → Tuple → Ordering
items_cmp [] t u = Equal
items_cmp (i ∷ items) t u = ordering_then (item_cmp i t u) (items_cmp items t u)

-- the order of tuples by a key, then by the items, and, where it is so wanted, then by the whole tuple
abbrev pub key_cmp : List ℕ → List OrderItem → Bool → Tuple → Tuple → Ordering
key_cmp key items whole t u = if whole then rank_cmp (steps key items) t u else items_cmp (steps key items) t u
