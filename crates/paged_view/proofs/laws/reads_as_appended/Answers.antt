-- The law is a lemma.
use Rattle.paged_view.proofs.RecordLemmas.{reads_first}
use Rattle.paged_view.proofs.laws.reads_as_appended.Goals as goal

pub returns : goal.returns
returns c = reads_first
