-- The law is a lemma.
use Rattle.lot_store.proofs.RowsRead.{rows_read}
use Rattle.lot_store.proofs.laws.rows_are_read.Goals as goal

pub returns : goal.returns
returns c = rows_read
