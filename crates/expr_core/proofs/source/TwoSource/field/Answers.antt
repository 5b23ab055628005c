use Rattle.std.proofs.Common.{◌≡◌, ℕ, List, ◌+◌, ◌-◌, ◌++◌, length, sym, ◌∙◌, ap, arith}
use Rattle.flow_types.specs.Tuples.{Tuple, field}
use Rattle.flow_types.specs.Records.{tuple_of}
use Rattle.record_codec.proofs.RecordLemmas.{record_small}
use Rattle.expr_core.proofs.FieldLemmas.{length-tuple_of, field-left, field-right}
use Rattle.expr_core.proofs.SeenLemmas.{left_value, left_inside}
use Rattle.expr_core.proofs.source.TwoSource.field.Goals as goal

pub returns-then-number-count-clause-value : goal.returns-then-number-count-clause-value
returns-then-number-count-clause-value g c =
    let left : List ℕ = g.A.Span.seen c.args.self.now.left.now in
    let right : List ℕ = g.B.Span.seen c.args.self.now.right.now in
    let t : Tuple = tuple_of c.args.self.now.left_schema.now left in
    let u : Tuple = tuple_of c.args.self.now.right_schema.now right in
    λ room. left_value left right room c.field_of.result (c.field_of.ensures.inside room)
    ∙ c.field_of.ensures.value room
    ∙ sym (field-left t u c.from-number.result (omega (arith, length-tuple_of c.args.self.now.left_schema.now left, ap length c.fields-count.ensures.value, c.if-number-count.true)))
    ∙ ap (λ (n : ℕ). field n (t ++ u)) c.from-number.ensures

pub returns-then-number-count-clause-inside : goal.returns-then-number-count-clause-inside
returns-then-number-count-clause-inside g c =
    λ room. left_inside (g.A.Span.seen c.args.self.now.left.now) (g.B.Span.seen c.args.self.now.right.now) room c.field_of.result (c.field_of.ensures.inside room)

pub moved-requires-clause-few : goal.moved-requires-clause-few
moved-requires-clause-few g c =
    let small = record_small c.args.self.now.left_schema.now (g.A.Span.seen c.args.self.now.left.now) c.fields-count.ensures.limits c.requires.0 in
    omega (arith, small, c.len.ensures)

pub returns-clause-value : goal.returns-clause-value
returns-clause-value g c =
    let left : List ℕ = g.A.Span.seen c.args.self.now.left.now in
    let right : List ℕ = g.B.Span.seen c.args.self.now.right.now in
    let t : Tuple = tuple_of c.args.self.now.left_schema.now left in
    let u : Tuple = tuple_of c.args.self.now.right_schema.now right in
    let past : length t + (c.from-number.result - length c.fields-count.result.now) ≡ c.args.number =
    omega (arith, c.from-number.ensures, length-tuple_of c.args.self.now.left_schema.now left, ap length c.fields-count.ensures.value, c.if-number-count.false) in
    λ room. c.moved.ensures.value left right room (sym c.len.ensures)
    ∙ c.field_of-seen.ensures.value room
    ∙ sym (field-right t u (c.from-number.result - length c.fields-count.result.now))
    ∙ ap (λ (n : ℕ). field n (t ++ u)) past
