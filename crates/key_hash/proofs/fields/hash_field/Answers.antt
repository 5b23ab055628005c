use Rattle.std.proofs.Common.{ap, sym, arith, ◌∙◌, fold, length}
use Rattle.flow_types.specs.Hash.{hash_more}
use Rattle.flow_types.specs.Records.{value_form}
use Rattle.record_codec.proofs.RecordLemmas.{record_small}
use Rattle.key_hash.proofs.FormLemmas.{field_form, field_past, plain_form}
use Rattle.key_hash.proofs.fields.hash_field.Goals as goal

pub returns-then-number-fields : goal.returns-then-number-fields
returns-then-number-fields g c =
    c.hash_bytes.ensures
    ∙ ap (λ v. fold hash_more c.args.hash (value_form v))
    (sym (field_past c.args.schema.now (g.X.Span.seen c.args.row.now) c.args.number (omega (arith, ap length c.fields-fields.ensures.value))))

pub overflow_add-end : goal.overflow_add-end
overflow_add-end g c =
    omega (arith, record_small c.args.schema.now (g.X.Span.seen c.args.row.now) c.fields-fields.ensures.limits c.requires)

pub returns-in-Long : goal.returns-in-Long
returns-in-Long g c =
    c.hash_span.ensures
    ∙ ap (fold hash_more c.args.hash)
    (plain_form c.fields-fields.result.now c.args.schema.now (g.X.Span.seen c.args.row.now) c.args.number c.field_at-place.result
    c.fields-fields.ensures.value c.requires c.if-number-fields.false c.in-Long.is c.field_at-place.ensures.place)

pub returns-in-Str : goal.returns-in-Str
returns-in-Str g c =
    c.hash_span-in-Str.ensures
    ∙ ap (fold hash_more c.args.hash)
    (field_form c.fields-fields.result.now c.args.schema.now (g.X.Span.seen c.args.row.now) c.args.number c.field_at-place.result _
    c.fields-fields.ensures.value c.requires c.if-number-fields.false c.in-Str.is c.field_at-place.ensures.place)
