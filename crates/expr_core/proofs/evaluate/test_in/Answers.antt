use Rattle.std.proofs.Common.{Bool, sym, ap, ◌∙◌}
use Rattle.flow_types.specs.declared.value.Value.{Value}
use Rattle.flow_types.specs.declared.value.Value.TheVariants as value
use Rattle.flow_types.specs.declared.field_type.FieldType.TheVariants as type
use Rattle.flow_types.specs.Values.{flag_of}
use Rattle.flow_types.specs.Records.{tuple_of}
use Rattle.flow_types.specs.Expressions.{val}
use Rattle.flow_types.proofs.TypeLaws.{value_fits}
use Rattle.expr_core.proofs.ColumnLemmas.{bool_value}
use Rattle.expr_core.proofs.evaluate.test_in.Goals as goal

pub returns-clause-value : goal.returns-clause-value
returns-clause-value g c =
    bool_value (val (tuple_of c.args.ls.now (g.X.Span.seen c.args.left.now)) c.args.e.now)
    (value_fits c.args.ls.now (tuple_of c.args.ls.now (g.X.Span.seen c.args.left.now)) c.requires.whole.tuple.fitting c.args.e.now type.Bool c.requires.bool)
    ∙ ap (λ (v : Value). value.Bool (flag_of v)) (sym c.eval.ensures.value)
    ∙ ap (λ (b : Bool). value.Bool b) (sym (c.flag.ensures (g.X.Span.seen c.args.left.now) c.eval.new.room))
