use Rattle.post_table.proofs.LedgerLemmas.{ids_kept}
use Rattle.post_table.proofs.laws.ids_are_kept.Goals as goal

pub returns : goal.returns
returns c = ids_kept
