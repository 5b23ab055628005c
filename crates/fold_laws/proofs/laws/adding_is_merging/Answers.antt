use Rattle.fold_laws.proofs.AddingLaws.{alone, more, any_value}
use Rattle.fold_laws.proofs.laws.adding_is_merging.Goals as goal

pub returns : goal.returns
returns c = record { alone = alone; more = more; any_value = any_value }
