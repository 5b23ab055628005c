use Rattle.flow_types.proofs.FoldLaws.{sum_of-append, least_of-append, greatest_of-append}
use Rattle.flow_types.proofs.laws.folds_split.Goals as goal

pub returns : goal.returns
returns c = record {
  sums = sum_of-append;
  least = least_of-append;
  greatest = greatest_of-append;
}
