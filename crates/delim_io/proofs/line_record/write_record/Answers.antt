-- One field more, and the ends of the line.
use Rattle.std.proofs.Common.{◌≡◌, ◌+◌, ◌-◌, ◌≤◌, Some, length, get_or, ap, sym, subst, ◌∙◌, arith}
use Rattle.std.proofs.lemmas.Grind.{common_steps}
use Rattle.flow_types.specs.declared.field_type.FieldType.TheVariants as type
use Rattle.flow_types.specs.Types.{width}
use Rattle.delim_io.specs.Fields.{field_value}
use Rattle.delim_io.proofs.HeldLemmas.{each_tuple}
use Rattle.delim_io.proofs.LineLemmas.{line_long, line_short}
use Rattle.delim_io.proofs.LineRecordLemmas.{IsBuilt, built_last, built_more, some_field}
use Rattle.delim_io.proofs.line_record.write_record.Goals as goal

pub returns-in_default-clause-row : goal.returns-in_default-clause-row
returns-in_default-clause-row c =
    line_short c.args.schema.now c.args.delimiter c.args.line.now c.loop-i.invariant.built.values c.loop-i.i c.loop-i.rest.now c.loop-i.invariant.built.taken type.Long
    (omega (arith, c.loop-i-test.true, ap length c.fields-fields.ensures.value)) c.in_default.ensures.parts

pub loop-i-preserved : goal.loop-i-preserved
loop-i-preserved c =
    let wrote = c.in-Some-write_field.ensures.value in
    record {
      built = built_more c.args.schema.now c.args.delimiter c.args.line.now c.loop-i.i c.loop-i.rest.now c.in-Some.text.now c.in-Some.after.now c.args.out.now c.loop-i.out c.write_field.new.out c.loop-i.end c.in-Some-write_field.behind type.Long wrote.0
          (omega (arith, c.loop-i-test.true, ap length c.fields-fields.ensures.value)) (grind (arith, common_steps))
          (subst (λ fs. field_value (get_or fs c.loop-i.i type.Long) c.in-Some.text.now ≡ Some wrote.0) c.fields-fields.ensures.value wrote.1)
          wrote.2 (subst (λ fs. c.in-Some-write_field.behind ≤ c.loop-i.end + width (get_or fs c.loop-i.i type.Long)) c.fields-fields.ensures.value wrote.3) wrote.4 c.loop-i.invariant.built;
      space = c.write_field.ensures.space ∙ c.loop-i.invariant.space;
    }

pub returns-in-Some-cut-clause-row : goal.returns-in-Some-cut-clause-row
returns-in-Some-cut-clause-row c =
    line_long c.args.schema.now c.args.delimiter c.args.line.now c.loop-i.invariant.built.values c.loop-i.i c.loop-i.rest.now c.loop-i.invariant.built.taken type.Long _ _
    (omega (arith, c.loop-i-test.false, c.loop-i.auto.i-end, ap length c.fields-fields.ensures.value, some_field c.args.schema.now c.fields-fields.ensures.limits)) c.in-Some-cut.ensures.parts

pub returns-in-None-cut-clause-row : goal.returns-in-None-cut-clause-row
returns-in-None-cut-clause-row c =
    let fields = c.fields-fields.result.now in
    let some = some_field c.args.schema.now c.fields-fields.ensures.limits in
    let at : c.loop-i.i ≡ length fields - 1 = omega (arith, c.loop-i-test.false, c.loop-i.auto.i-end) in
    built_last c.args.schema.now fields c.args.delimiter c.args.line.now (length fields - 1) c.loop-i.rest.now c.args.out.now c.loop-i.out c.write_field-in-None-cut.new.out c.loop-i.end c.write_field-in-None-cut.result
    c.fields-fields.ensures.value (sym c.is_plain_line.ensures ∙ c.if-not-is_plain_line.false) (omega (arith, ap length c.fields-fields.ensures.value, some)) c.in-None-cut.ensures.parts
    (subst (λ k. IsBuilt c.args.schema.now c.args.delimiter c.args.line.now k c.loop-i.rest.now c.args.out.now c.loop-i.out c.loop-i.end) at c.loop-i.invariant.built) c.write_field-in-None-cut.ensures.value

pub returns-in-None-cut-clause-tuple : goal.returns-in-None-cut-clause-tuple
returns-in-None-cut-clause-tuple c = each_tuple c.args.schema.now c.args.delimiter c.args.line.now c.fields-fields.ensures.limits c.write_field-in-None-cut.result
