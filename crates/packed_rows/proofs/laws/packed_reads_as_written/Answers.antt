use Rattle.packed_rows.proofs.PackedLemmas.{packs_read_as_written}
use Rattle.packed_rows.proofs.laws.packed_reads_as_written.Goals as goal

pub returns : goal.returns
returns c = packs_read_as_written
