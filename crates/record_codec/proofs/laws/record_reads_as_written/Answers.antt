use Rattle.record_codec.proofs.RecordLemmas.{reads_as_written, is_record_of_read, has_one_tuple}
use Rattle.record_codec.proofs.laws.record_reads_as_written.Goals as goal

pub returns : goal.returns
returns c = record { reads = reads_as_written; «record» = is_record_of_read; one = has_one_tuple }
