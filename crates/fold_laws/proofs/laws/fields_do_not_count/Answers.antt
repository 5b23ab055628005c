use Rattle.fold_laws.proofs.AddingLaws.{merging, adding, finishing}
use Rattle.fold_laws.proofs.laws.fields_do_not_count.Goals as goal

pub returns : goal.returns
returns c = record { merging = merging; adding = adding; finishing = finishing }
