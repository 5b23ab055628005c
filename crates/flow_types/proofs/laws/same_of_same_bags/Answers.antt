use Rattle.flow_types.proofs.BagLaws.{length-same, count_by-same, list_all-same, list_any-same, fold-same}
use Rattle.flow_types.proofs.BagBridges.{sort_by-same}
use Rattle.flow_types.proofs.laws.same_of_same_bags.Goals as goal

pub returns : goal.returns
returns g c = record {
  lengths = λ xs ys s. length-same s;
  counts = λ p xs ys s. count_by-same p s;
  all_tests = λ p xs ys s. list_all-same p s;
  any_tests = λ p xs ys s. list_any-same p s;
  folds = λ f commutes a xs ys s. fold-same f commutes a s;
  sorts = λ cmp total ties xs ys s. sort_by-same cmp total ties s;
}
