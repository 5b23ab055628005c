use Rattle.std.proofs.Common.{rules, ◌∙◌, FitsSigned, to_z, of_z, to_z-of_z, w64}
use Rattle.record_codec.proofs.NumberLemmas.{long_bytes}
use Rattle.record_codec.proofs.number.long_at.Goals as goal

pub returns-clause-bytes : goal.returns-clause-bytes
returns-clause-bytes g c =
    let fit : FitsSigned w64 c.from_be_bytes.result = search rules in
    long_bytes (to_z w64 (of_z w64 c.from_be_bytes.result)) c.eight_bytes-bytes.result (search rules) (search rules)
    (to_z-of_z fit ∙ c.from_be_bytes.ensures) ∙ c.eight_bytes-bytes.ensures
