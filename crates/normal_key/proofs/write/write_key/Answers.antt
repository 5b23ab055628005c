use Rattle.std.proofs.Common.{ℕ, List, ◌++◌, map, take, ap, sym, ◌∙◌, false}
use Rattle.flow_types.specs.Tuples.{Tuple, field}
use Rattle.flow_types.specs.Records.{tuple_of}
use Rattle.normal_key.specs.Comparisons.{ascending}
use Rattle.normal_key.specs.NormalForms.{directed_form, items_form}
use Rattle.normal_key.proofs.WrittenLemmas.{adds_next, key_more}
use Rattle.normal_key.proofs.write.write_key.Goals as goal

pub loop-number-preserved : goal.loop-number-preserved
loop-number-preserved g c =
    let t : Tuple = tuple_of c.args.schema.now (g.X.Span.seen c.args.row.now) in
    let done : List ℕ = items_form (map ascending (take c.loop-number.number-index c.args.key.now)) t in
    adds_next c.args.prefix.now c.loop-number.prefix c.write_field.new.prefix done (directed_form false (field c.from.result t)) _
    c.loop-number.invariant c.write_field.ensures
    (ap (λ (k : ℕ). done ++ directed_form false (field k t)) c.from.ensures
    ∙ sym (key_more c.args.key.now c.loop-number.number-index t c.loop-number-test.true))
