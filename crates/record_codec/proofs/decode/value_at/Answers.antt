use Rattle.std.proofs.Common.{◌∙◌}
use Rattle.record_codec.proofs.DecodeLemmas.{text_utf8, text_value}
use Rattle.record_codec.proofs.PrefixLemmas.{long_inside}
use Rattle.record_codec.proofs.decode.value_at.Goals as goal

pub long_at-requires : goal.long_at-requires
long_at-requires g c =
    long_inside c.args.field c.args.start (g.X.Span.seen c.args.row.now) c.in-Long.is c.requires.inside c.requires.begins

pub text_at-requires-clause-utf8 : goal.text_at-requires-clause-utf8
text_at-requires-clause-utf8 g c =
    text_utf8 c.in-Str.field-0 c.args.start c.from-len.result (g.X.Span.seen c.args.row.now) c.args.field c.in-Str.is
    (c.from-len.ensures ∙ c.length_at.ensures.value) c.requires.begins

pub returns-in_ok-text_at-in-Str : goal.returns-in_ok-text_at-in-Str
returns-in_ok-text_at-in-Str g c =
    text_value c.in-Str.field-0 c.args.start c.from-len.result (g.X.Span.seen c.args.row.now) c.in_ok-text_at-in-Str.field-0 c.args.field c.in-Str.is
    (c.from-len.ensures ∙ c.length_at.ensures.value) c.in_ok-text_at-in-Str.ensures
