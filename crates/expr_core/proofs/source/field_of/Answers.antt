use Rattle.std.proofs.Common.{length, slice_index_or, sym, ◌∙◌, ap, arith}
use Rattle.flow_types.specs.declared.field_type.FieldType.TheVariants as type
use Rattle.flow_types.specs.Records.{tuple_of}
use Rattle.record_codec.proofs.RecordLemmas.{record_small}
use Rattle.expr_core.proofs.FieldLemmas.{length-tuple_of, field-past, field_value}
use Rattle.expr_core.proofs.source.field_of.Goals as goal

pub returns-then-number-fields-clause-value : goal.returns-then-number-fields-clause-value
returns-then-number-fields-clause-value g c =
    λ room. sym (field-past (tuple_of c.args.schema.now (g.X.Span.seen c.args.row.now)) c.args.number
    (omega (arith, length-tuple_of c.args.schema.now (g.X.Span.seen c.args.row.now), ap length c.fields-fields.ensures.value, c.if-number-fields.true)))

pub returns-then-number-fields-clause-small : goal.returns-then-number-fields-clause-small
returns-then-number-fields-clause-small g c = record_small c.args.schema.now (g.X.Span.seen c.args.row.now) c.fields-fields.ensures.limits c.requires

pub seen_at-requires-clause-small : goal.seen_at-requires-clause-small
seen_at-requires-clause-small g c = record_small c.args.schema.now (g.X.Span.seen c.args.row.now) c.fields-fields.ensures.limits c.requires

pub returns-clause-value : goal.returns-clause-value
returns-clause-value g c =
    λ room. c.seen_at.ensures.value room
    ∙ field_value c.args.schema.now (g.X.Span.seen c.args.row.now) c.args.number c.field_at-place.result
    (slice_index_or c.fields-fields.result.now c.args.number type.Long)
    (omega (arith, ap length c.fields-fields.ensures.value, c.if-number-fields.false))
    (ap (λ fs. slice_index_or fs c.args.number type.Long) (sym c.fields-fields.ensures.value))
    c.field_at-place.ensures.place

pub returns-clause-small : goal.returns-clause-small
returns-clause-small g c = record_small c.args.schema.now (g.X.Span.seen c.args.row.now) c.fields-fields.ensures.limits c.requires
