use Rattle.flow_types.proofs.RankLaws.{rank_cmp_total, rank_cmp_exact}
use Rattle.flow_types.proofs.BagBridges.{rank_sort-same}
use Rattle.flow_types.proofs.laws.rank_is_an_order.Goals as goal

pub returns : goal.returns
returns c = record {
  total = rank_cmp_total;
  ties = rank_cmp_exact;
  one_list = λ items xs ys s. rank_sort-same items s;
}
