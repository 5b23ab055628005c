use Rattle.std.proofs.Common.{◌≡◌, ◌-◌, ◌≤◌, ◌<◌, map, drop}
use Rattle.serde_json.specs.View.{view}
use Rattle.plan_text.specs.Nodes.{count_with, count_up_to, left_after}
use Rattle.plan_text.proofs.numbering.+left_after.Given as goal

abbrev pub invariant-loop-item : goal.invariant-loop-item
invariant-loop-item l = record {
  some : 0 < l.depth;
  left : left_after l.most (count_with (count_up_to (l.depth - 1)) (map view l.items)) ≡ left_after l.left (count_with (count_up_to (l.depth - 1)) (map view (drop l.item-index l.items)));
}

abbrev pub decreases-left_after : goal.decreases-left_after
decreases-left_after l = l.depth
