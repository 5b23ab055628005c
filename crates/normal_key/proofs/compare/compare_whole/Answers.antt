use Rattle.std.proofs.Common.{length, sym, ◌∙◌, ap, arith}
use Rattle.flow_types.specs.Tuples.{Tuple}
use Rattle.flow_types.specs.Records.{tuple_of}
use Rattle.normal_key.proofs.FieldLemmas.{length-tuple_of, whole_equal, whole_differs, whole_done}
use Rattle.normal_key.proofs.compare.compare_whole.Goals as goal

pub returns-in_default : goal.returns-in_default
returns-in_default g c =
    let t : Tuple = tuple_of c.args.schema.now (g.X.Span.seen c.args.a.now) in
    let u : Tuple = tuple_of c.args.schema.now (g.X.Span.seen c.args.b.now) in
    let left = length-tuple_of c.args.schema.now (g.X.Span.seen c.args.a.now) in
    let right = length-tuple_of c.args.schema.now (g.X.Span.seen c.args.b.now) in
    let count = ap length c.fields-number-end.ensures.value in
    whole_differs c.loop-number.number t u c.compare_field.result (omega (arith, left, count, c.loop-number-test.true)) (omega (arith, right, count, c.loop-number-test.true))
    c.compare_field.ensures c.in_default.not-Equal
    ∙ sym c.loop-number.invariant

pub loop-number-preserved : goal.loop-number-preserved
loop-number-preserved g c =
    let t : Tuple = tuple_of c.args.schema.now (g.X.Span.seen c.args.a.now) in
    let u : Tuple = tuple_of c.args.schema.now (g.X.Span.seen c.args.b.now) in
    let left = length-tuple_of c.args.schema.now (g.X.Span.seen c.args.a.now) in
    let right = length-tuple_of c.args.schema.now (g.X.Span.seen c.args.b.now) in
    let count = ap length c.fields-number-end.ensures.value in
    c.loop-number.invariant
    ∙ whole_equal c.loop-number.number t u c.compare_field.result (omega (arith, left, count, c.loop-number-test.true)) (omega (arith, right, count, c.loop-number-test.true))
    c.compare_field.ensures c.in-Equal.is

pub returns : goal.returns
returns g c =
    let t : Tuple = tuple_of c.args.schema.now (g.X.Span.seen c.args.a.now) in
    let u : Tuple = tuple_of c.args.schema.now (g.X.Span.seen c.args.b.now) in
    let left = length-tuple_of c.args.schema.now (g.X.Span.seen c.args.a.now) in
    let right = length-tuple_of c.args.schema.now (g.X.Span.seen c.args.b.now) in
    let count = ap length c.fields-number-end.ensures.value in
    whole_done c.loop-number.number t u (omega (arith, left, count, c.loop-number-test.false)) (omega (arith, right, count, c.loop-number-test.false))
    ∙ sym c.loop-number.invariant
