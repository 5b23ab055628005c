use Rattle.record_codec.proofs.RecordLemmas.{record_small}
use Rattle.record_codec.proofs.decode.decode.Goals as goal

pub push_value-requires-clause-small : goal.push_value-requires-clause-small
push_value-requires-clause-small g c =
    record_small c.args.schema.now (g.X.Span.seen c.args.row.now) c.fields-fields.ensures.limits c.requires
