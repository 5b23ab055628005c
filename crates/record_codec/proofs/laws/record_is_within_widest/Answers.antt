use Rattle.record_codec.proofs.RecordLemmas.{is_within_widest}
use Rattle.record_codec.proofs.laws.record_is_within_widest.Goals as goal

pub returns : goal.returns
returns c = is_within_widest
