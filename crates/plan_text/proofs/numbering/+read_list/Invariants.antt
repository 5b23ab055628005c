use Rattle.std.proofs.Common.{◌≡◌, ◌+◌, ◌-◌, ◌≤◌, ◌<◌, List, ◌++◌, map, drop, vec_len, length}
use Rattle.serde_json.specs.View.{view}
use Rattle.plan_text.specs.declared.tree.TreeNode.{TreeNode}
use Rattle.plan_text.specs.Nodes.{placed_with, placed_up_to, count_with, count_up_to, nodes_of}
use Rattle.plan_text.proofs.NodeLemmas.{onto}
use Rattle.plan_text.proofs.numbering.+read_list.Given as goal

abbrev pub invariant-loop-item : goal.invariant-loop-item
invariant-loop-item l = record {
  some : 0 < l.depth;
  few : vec_len l.nodes + count_with (count_up_to (l.depth - 1)) (map view (drop l.item-index l.items)) ≤ 64;
  more : List TreeNode;
  added : l.nodes.items ≡ l.fn.nodes.items ++ more;
  read : nodes_of (placed_with (placed_up_to (l.depth - 1)) l.home (vec_len l.fn.nodes + 1) (map view l.items))
      ≡ onto more (nodes_of (placed_with (placed_up_to (l.depth - 1)) l.home (vec_len l.nodes + 1) (map view (drop l.item-index l.items))));
}

abbrev pub decreases-read_list : goal.decreases-read_list
decreases-read_list l = l.depth
