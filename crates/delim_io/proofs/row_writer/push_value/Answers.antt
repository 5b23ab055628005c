use Rattle.std.proofs.Common.{arith, ◌∙◌}
use Rattle.csv.specs.Records.{fields_of}
use Rattle.record_codec.proofs.RecordLemmas.{record_small}
use Rattle.delim_io.proofs.RowTextLemmas.{flag_text, long_text, span_text, text_added}
use Rattle.delim_io.proofs.row_writer.push_value.Goals as goal

pub overflow_add-place : goal.overflow_add-place
overflow_add-place g c =
    omega (arith, c.field_at-place.ensures.inside, record_small c.args.schema.now (g.X.Span.seen c.args.row.now) c.fields.ensures.limits c.requires.whole)

pub returns-in-Long-clause-pushed : goal.returns-in-Long-clause-pushed
returns-in-Long-clause-pushed g c =
    text_added c.push_long.result (fields_of c.args.fields.now) (fields_of c.push_long.new.fields) _ _
    (long_text c.fields.result.now c.args.schema.now (g.X.Span.seen c.args.row.now) c.args.number c.field_at-place.result c.fields.ensures.value c.requires.exists c.in-Long.is c.field_at-place.ensures.place)
    c.push_long.ensures.pushed

pub returns-in-Bool-clause-pushed : goal.returns-in-Bool-clause-pushed
returns-in-Bool-clause-pushed g c =
    text_added c.push_bytes.result (fields_of c.args.fields.now) (fields_of c.push_bytes.new.fields) _ _
    (c.bool_bytes.ensures
    ∙ flag_text c.fields.result.now c.args.schema.now (g.X.Span.seen c.args.row.now) c.args.number c.field_at-place.result c.at.result c.fields.ensures.value c.requires.exists c.in-Bool.is c.field_at-place.ensures.place c.at.ensures)
    c.push_bytes.ensures.pushed

pub returns-in-Str-clause-pushed : goal.returns-in-Str-clause-pushed
returns-in-Str-clause-pushed g c =
    text_added c.push_span.result (fields_of c.args.fields.now) (fields_of c.push_span.new.fields) _ _
    (span_text c.fields.result.now c.args.schema.now (g.X.Span.seen c.args.row.now) c.args.number c.in-Str.field-0 c.field_at-place.result c.fields.ensures.value c.requires.exists c.in-Str.is c.field_at-place.ensures.bytes)
    c.push_span.ensures.pushed
