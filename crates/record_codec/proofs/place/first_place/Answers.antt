use Rattle.std.proofs.Common.{◌∙◌}
use Rattle.record_codec.proofs.PlaceLemmas.{text_content}
use Rattle.record_codec.proofs.place.first_place.Goals as goal

pub returns-in-Str-clause-bytes : goal.returns-in-Str-clause-bytes
returns-in-Str-clause-bytes g c =
    text_content c.in-Str.field-0 c.args.start c.from.result (g.X.Span.seen c.args.row.now) c.args.field c.in-Str.is
    (c.from.ensures ∙ c.length_at.ensures.value)
