use Rattle.std.proofs.Common.{arith}
use Rattle.record_codec.proofs.PrefixLemmas.{fields_done}
use Rattle.record_codec.proofs.check.check_fields.Goals as goal

pub returns : goal.returns
returns g c =
    fields_done c.args.fields.now (g.X.Span.seen c.args.row.now) c.loop-field.field-index c.loop-field.start c.len.result
    (omega arith) c.loop-field.invariant.inside c.len.ensures c.loop-field.invariant.same
