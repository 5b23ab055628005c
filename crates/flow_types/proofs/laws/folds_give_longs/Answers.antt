use Rattle.flow_types.proofs.FoldLongs.{long-fold_of}
use Rattle.flow_types.proofs.laws.folds_give_longs.Goals as goal

pub returns : goal.returns
returns c = long-fold_of
