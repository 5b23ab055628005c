use Rattle.fold_laws.proofs.AddingLaws.{longs, onward, whole}
use Rattle.fold_laws.proofs.laws.adding_gives_the_fold.Goals as goal

pub returns : goal.returns
returns c = record { longs = longs; onward = onward; whole = whole }
