use Rattle.std.proofs.Common.{◌≡◌, take}
use Rattle.std.specs.List.{flat_map}
use Rattle.flow_types.specs.Tuples.{rank_cmp}
use Rattle.flow_types.specs.Bags.{sort_by}
use Rattle.flow_model.specs.Rows.{with_key}
use Rattle.plain_ops.proofs.groups.top_rows.Given as goal

abbrev pub invariant-loop-one : goal.invariant-loop-one
invariant-loop-one l = l.first.items ≡ flat_map (λ k. take l.count (sort_by (rank_cmp l.order) (with_key l.key k l.rows))) (take l.one-index l.one-items)
