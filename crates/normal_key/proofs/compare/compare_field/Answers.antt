use Rattle.std.proofs.Common.{ℕ, ◌∙◌, ap, not, ◌==◌, slice_index}
use Rattle.std.specs.Ordering.{bool_cmp}
use Rattle.normal_key.proofs.FieldLemmas.{past_equal, fields_compared, longs_compared}
use Rattle.normal_key.proofs.compare.compare_field.Goals as goal

pub returns-then-number-fields : goal.returns-then-number-fields
returns-then-number-fields g c =
    past_equal c.fields-fields.result.now c.args.schema.now (g.X.Span.seen c.args.a.now) (g.X.Span.seen c.args.b.now) c.args.number
    c.fields-fields.ensures.value c.if-number-fields.true

pub returns-in-Long : goal.returns-in-Long
returns-in-Long g c =
    longs_compared c.cmp.result c.long_at.result c.long_at-in-Long.result _ _ (record { sfits = c.long_at.type_inv }) (record { sfits = c.long_at-in-Long.type_inv })
    c.cmp.ensures c.long_at.ensures.value c.long_at-in-Long.ensures.value
    ∙ fields_compared c.fields-fields.result.now c.args.schema.now (g.X.Span.seen c.args.a.now) (g.X.Span.seen c.args.b.now) c.args.number
    c.field_at-left.result c.field_at-right.result _ c.fields-fields.ensures.value c.if-number-fields.false c.in-Long.is
    c.field_at-left.ensures.place c.field_at-right.ensures.place

pub returns-in-Bool : goal.returns-in-Bool
returns-in-Bool g c =
    c.cmp-in-Bool.ensures
    ∙ ap (λ (x : ℕ). bool_cmp (not (x == 0)) (not (c.at-in-Bool.result == 0))) c.at.ensures
    ∙ ap (λ (y : ℕ). bool_cmp (not (slice_index (g.X.Span.seen c.args.a.now) c.field_at-left.result.start == 0)) (not (y == 0))) c.at-in-Bool.ensures
    ∙ fields_compared c.fields-fields.result.now c.args.schema.now (g.X.Span.seen c.args.a.now) (g.X.Span.seen c.args.b.now) c.args.number
    c.field_at-left.result c.field_at-right.result _ c.fields-fields.ensures.value c.if-number-fields.false c.in-Bool.is
    c.field_at-left.ensures.place c.field_at-right.ensures.place

pub returns-in-Str : goal.returns-in-Str
returns-in-Str g c =
    c.compare_texts.ensures ∙ fields_compared c.fields-fields.result.now c.args.schema.now (g.X.Span.seen c.args.a.now) (g.X.Span.seen c.args.b.now) c.args.number
    c.field_at-left.result c.field_at-right.result _ c.fields-fields.ensures.value c.if-number-fields.false c.in-Str.is
    c.field_at-left.ensures.place c.field_at-right.ensures.place
