use Rattle.std.proofs.Common.{◌≡◌, ℕ, ◌+◌, ◌-◌, ap, sym, ◌∙◌, not, ◌==◌, take, drop, arith, length, to_z-of_z}
use Rattle.std.specs.Int.{w64}
use Rattle.flow_types.specs.declared.value.Value.TheVariants as value
use Rattle.record_codec.proofs.RecordLemmas.{record_small}
use Rattle.normal_key.specs.NormalForms.{directed_form}
use Rattle.normal_key.proofs.WrittenLemmas.{adds_same}
use Rattle.normal_key.proofs.FieldLemmas.{field_past, field_is}
use Rattle.normal_key.proofs.write.write_field.Goals as goal

pub returns-then-number-fields : goal.returns-then-number-fields
returns-then-number-fields g c =
    adds_same c.args.prefix.now c.write_long.new.prefix _ _ c.write_long.ensures
    (ap (directed_form c.args.down) (sym (field_past c.args.schema.now (g.X.Span.seen c.args.row.now) c.args.number
    (omega (arith, ap length c.fields-fields.ensures.value, c.if-number-fields.true)))))

pub overflow_add-end : goal.overflow_add-end
overflow_add-end g c =
    omega (arith, record_small c.args.schema.now (g.X.Span.seen c.args.row.now) c.fields-fields.ensures.limits c.requires, c.field_at-place.ensures.inside)

pub returns-in-Long : goal.returns-in-Long
returns-in-Long g c =
    adds_same c.args.prefix.now c.write_long-in-Long.new.prefix _ _ c.write_long-in-Long.ensures
    (ap (λ z. directed_form c.args.down (value.Long z)) (to_z-of_z {w = w64} (record { sfits = c.long_at.type_inv }) ∙ c.long_at.ensures.value)
    ∙ ap (directed_form c.args.down) (field_is c.fields-fields.result.now c.args.schema.now (g.X.Span.seen c.args.row.now) c.args.number c.field_at-place.result _
    c.fields-fields.ensures.value c.if-number-fields.false c.in-Long.is c.field_at-place.ensures.place))

pub returns-in-Bool : goal.returns-in-Bool
returns-in-Bool g c =
    adds_same c.args.prefix.now c.write_flag.new.prefix _ _ c.write_flag.ensures
    (ap (λ (x : ℕ). directed_form c.args.down (value.Bool (not (x == 0)))) c.at.ensures
    ∙ ap (directed_form c.args.down) (field_is c.fields-fields.result.now c.args.schema.now (g.X.Span.seen c.args.row.now) c.args.number c.field_at-place.result _
    c.fields-fields.ensures.value c.if-number-fields.false c.in-Bool.is c.field_at-place.ensures.place))

pub returns-in-Str : goal.returns-in-Str
returns-in-Str g c =
    let start : ℕ = c.field_at-place.result.start in
    let same : start + c.field_at-place.result.len - start ≡ c.field_at-place.result.len = omega arith in
    adds_same c.args.prefix.now c.write_text.new.prefix _ _ c.write_text.ensures
    (ap (λ (n : ℕ). directed_form c.args.down (value.Str (take n (drop start (g.X.Span.seen c.args.row.now))))) same
    ∙ ap (directed_form c.args.down) (field_is c.fields-fields.result.now c.args.schema.now (g.X.Span.seen c.args.row.now) c.args.number c.field_at-place.result _
    c.fields-fields.ensures.value c.if-number-fields.false c.in-Str.is c.field_at-place.ensures.place))
