-- The rank of tuples is a total order in which only equal tuples tie.
use Rattle.std.proofs.Common.{Bool, true, false, cond, List, [], ◌∷◌}
use Rattle.std.specs.Cmp.{IsTotalOrder}
use Rattle.std.proofs.lemmas.Cmp.{then_total, on_total, back_total}
use Rattle.std.proofs.lemmas.Map.Lookups.{CmpEqualImpliesEq}
use Rattle.flow_types.specs.declared.order_item.OrderItem.{OrderItem}
use Rattle.flow_types.specs.Values.{value_cmp}
use Rattle.flow_types.specs.Tuples.{field, item_cmp, rank_cmp}
use Rattle.flow_types.proofs.OrderLaws.{value_cmp_total, tuple_cmp_total, tuple_cmp_exact, then_ties}

pub item_cmp_total : (i : OrderItem) → IsTotalOrder (item_cmp i)
item_cmp_total i = go i.down
  where
    go : (down : Bool) → IsTotalOrder (λ t u. cond down (value_cmp (field i.field u) (field i.field t)) (value_cmp (field i.field t) (field i.field u)))
    go true = back_total (on_total (field i.field) value_cmp_total)
    go false = on_total (field i.field) value_cmp_total

pub rank_cmp_total : (items : List OrderItem) → IsTotalOrder (rank_cmp items)
rank_cmp_total [] = tuple_cmp_total
rank_cmp_total (i ∷ items) = then_total (item_cmp_total i) (rank_cmp_total items)

pub rank_cmp_exact : (items : List OrderItem) → CmpEqualImpliesEq (rank_cmp items)
rank_cmp_exact [] t u e = tuple_cmp_exact t u e
rank_cmp_exact (i ∷ items) t u e = rank_cmp_exact items t u (then_ties (item_cmp i t u) (rank_cmp items t u) e).1
