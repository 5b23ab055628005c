use Rattle.record_codec.proofs.RecordLemmas.{size_small}
use Rattle.record_codec.proofs.encode.record_size.Goals as goal

pub returns-clause-small : goal.returns-clause-small
returns-clause-small c =
    size_small c.fields.result.now c.args.schema.now c.values.result.now c.size_of.result c.fields.ensures.value
    c.fields.ensures.limits c.size_of.ensures.fits c.size_of.ensures.size
