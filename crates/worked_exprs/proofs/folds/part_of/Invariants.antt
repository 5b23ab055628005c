use Rattle.std.proofs.Common.{◌≡◌, take, None}
use Rattle.fold_laws.specs.Parts.{kept_in, added_all}
use Rattle.worked_exprs.proofs.folds.part_of.Given as goal

abbrev pub invariant-loop-value : goal.invariant-loop-value
invariant-loop-value g l = kept_in l.part ≡ added_all (g.F.Fold.agg l.fold) None (take l.value-index l.values)
