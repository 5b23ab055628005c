use Rattle.std.proofs.Common.{◌≡◌, drop}
use Rattle.flow_types.specs.Tuples.{rank_cmp}
use Rattle.plain_ops.proofs.rank.compare_ranks.Given as goal

abbrev pub invariant-loop-item : goal.invariant-loop-item
invariant-loop-item l = rank_cmp l.order l.a l.b ≡ rank_cmp (drop l.item-index l.order) l.a l.b
