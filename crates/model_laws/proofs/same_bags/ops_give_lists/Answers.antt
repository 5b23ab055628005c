use Rattle.model_laws.proofs.OpBags.{each_once-same, keys_in-same, group_rows-same, top_rows-same, cogroup_rows-same, chosen-same, merged_equal, merged_single}
use Rattle.model_laws.proofs.same_bags.ops_give_lists.Goals as goal

pub returns : goal.returns
returns c = record {
  once = λ xs ys s. each_once-same s;
  keys = λ key xs ys s. keys_in-same key s;
  distinct = λ xs ys s. each_once-same s;
  grouped = λ key aggs xs ys s. group_rows-same key aggs s;
  topped = λ key order count xs ys s. top_rows-same key order count s;
  cogrouped = λ lk rk la ra ls ms rs ss s t. cogroup_rows-same lk rk la ra s t;
  choice = λ key order xs ys s. chosen-same key order s;
  merge = λ key order rule old xs ys s. merged_equal key order rule old s;
  merge_single = λ key order rule old others xs ys h s t. merged_single key order rule h s t;
}
