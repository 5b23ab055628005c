use Rattle.flow_types.proofs.BagBridges.{permutation_from_same, same_from_permutation, copies_from_same, same_from_copies, ordered-same, same_from_ordered}
use Rattle.flow_types.proofs.laws.same_bags_agree.Goals as goal

pub returns : goal.returns
returns c = record {
  counts = λ xs ys. (copies_from_same, same_from_copies xs ys);
  exchanges = λ xs ys. (permutation_from_same, same_from_permutation);
  orders = λ xs ys. (ordered-same, same_from_ordered xs ys);
}
