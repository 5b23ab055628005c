use Rattle.std.proofs.Common.{ℕ, List, ◌<◌, ◌++◌, ap, sym, ◌∙◌, take, arith, length, false}
use Rattle.std.specs.List.{flat_map}
use Rattle.flow_types.specs.Tuples.{Tuple, field}
use Rattle.flow_types.specs.Records.{tuple_of}
use Rattle.normal_key.specs.NormalForms.{normal_form, directed_form}
use Rattle.normal_key.proofs.TurnedLemmas.{plain_turned}
use Rattle.normal_key.proofs.WrittenLemmas.{adds_next, adds_same}
use Rattle.normal_key.proofs.FieldLemmas.{length-tuple_of, whole_form_more, whole_form_all}
use Rattle.normal_key.proofs.write.write_whole.Goals as goal

pub loop-number-preserved : goal.loop-number-preserved
loop-number-preserved g c =
    let t : Tuple = tuple_of c.args.schema.now (g.X.Span.seen c.args.row.now) in
    let n : ℕ = c.loop-number.number in
    let low : n < length t = omega (arith, length-tuple_of c.args.schema.now (g.X.Span.seen c.args.row.now), ap length c.fields-number-end.ensures.value, c.loop-number-test.true) in
    adds_next c.args.prefix.now c.loop-number.prefix c.write_field.new.prefix (flat_map normal_form (take n t)) (directed_form false (field n t)) _
    c.loop-number.invariant c.write_field.ensures
    (ap (λ (bs : List ℕ). flat_map normal_form (take n t) ++ bs) (plain_turned (normal_form (field n t)))
    ∙ sym (whole_form_more n t low))

pub returns : goal.returns
returns g c =
    let seen : List ℕ = g.X.Span.seen c.args.row.now in
    adds_same c.args.prefix.now c.loop-number.prefix _ _ c.loop-number.invariant
    (whole_form_all c.args.whole c.loop-number.number (tuple_of c.args.schema.now seen) c.if-not-whole.false
    (omega (arith, length-tuple_of c.args.schema.now seen, ap length c.fields-number-end.ensures.value, c.loop-number-test.false)))
