use Rattle.flow_types.proofs.BagLaws.{same-append, same-append_comm, same-map, same-filter, same-flat_map_both}
use Rattle.flow_types.proofs.BagBridges.{same-sort}
use Rattle.flow_types.proofs.laws.steps_keep_bags.Goals as goal

pub returns : goal.returns
returns g c = record {
  appended = λ xs ys us vs s t. same-append s t;
  either_way = same-append_comm;
  mapped = λ f xs ys s. same-map f s;
  filtered = λ p xs ys s. same-filter p s;
  flat_mapped = λ f h each xs ys s. same-flat_map_both f h each s;
  sorted = same-sort;
}
