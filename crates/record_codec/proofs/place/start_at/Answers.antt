use Rattle.std.proofs.Common.{◌∙◌}
use Rattle.record_codec.proofs.RecordLemmas.{record_small}
use Rattle.record_codec.proofs.PlaceLemmas.{start_found}
use Rattle.record_codec.proofs.place.start_at.Goals as goal

pub field_start-requires-clause-small : goal.field_start-requires-clause-small
field_start-requires-clause-small g c =
    record_small c.args.schema.now (g.X.Span.seen c.args.row.now) c.fields-fields.ensures.limits c.requires.record

pub returns-in-Some-clause-start : goal.returns-in-Some-clause-start
returns-in-Some-clause-start g c =
    (start_found c.args.schema.now (g.X.Span.seen c.args.row.now) c.args.i c.from.result c.requires.exists c.requires.record c.in-Some.ensures.0 (c.from.ensures ∙ c.in-Some.ensures.1)).0

pub returns-in-Some-clause-inside : goal.returns-in-Some-clause-inside
returns-in-Some-clause-inside g c =
    (start_found c.args.schema.now (g.X.Span.seen c.args.row.now) c.args.i c.from.result c.requires.exists c.requires.record c.in-Some.ensures.0 (c.from.ensures ∙ c.in-Some.ensures.1)).1

pub returns-in-Some-clause-rest : goal.returns-in-Some-clause-rest
returns-in-Some-clause-rest g c =
    (start_found c.args.schema.now (g.X.Span.seen c.args.row.now) c.args.i c.from.result c.requires.exists c.requires.record c.in-Some.ensures.0 (c.from.ensures ∙ c.in-Some.ensures.1)).2

pub returns-in-Some-clause-small : goal.returns-in-Some-clause-small
returns-in-Some-clause-small g c =
    record_small c.args.schema.now (g.X.Span.seen c.args.row.now) c.fields-fields.ensures.limits c.requires.record

pub returns-in-None-clause-small : goal.returns-in-None-clause-small
returns-in-None-clause-small g c =
    record_small c.args.schema.now (g.X.Span.seen c.args.row.now) c.fields-fields.ensures.limits c.requires.record
