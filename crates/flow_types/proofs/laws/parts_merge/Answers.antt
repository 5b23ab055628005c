use Rattle.flow_types.specs.LawsOfFolds.{merge_two}
use Rattle.flow_types.proofs.FoldLaws.{of_both-none, of_both-comm, of_both-assoc, merge_two-comm, merge_two-assoc, kept_of-append, fold_of_finished}
use Rattle.flow_types.proofs.laws.parts_merge.Goals as goal

pub returns : goal.returns
returns c = record {
  whole = fold_of_finished;
  parts = kept_of-append;
  either_way = λ a p q. of_both-comm (merge_two a) (merge_two-comm a) p q;
  grouped = λ a p q r. of_both-assoc (merge_two a) (merge_two-assoc a) p q r;
  neutral = λ a p. of_both-none (merge_two a) p;
}
