use Rattle.flow_types.proofs.FoldLaws.{fold_of-same, kept_of-same}
use Rattle.flow_types.proofs.laws.folds_of_same_bags.Goals as goal

pub returns : goal.returns
returns c = record {
  value = λ a xs ys s. fold_of-same a s;
  kept = kept_of-same;
}
