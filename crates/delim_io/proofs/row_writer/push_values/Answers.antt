use Rattle.std.proofs.Common.{ap, arith, ◌∙◌, length, map, take_all}
use Rattle.csv.specs.Records.{fields_of}
use Rattle.flow_types.specs.Records.{tuple_of}
use Rattle.delim_io.specs.ResultText.{value_text}
use Rattle.delim_io.proofs.RowTextLemmas.{length-tuple_of, texts_more}
use Rattle.delim_io.proofs.row_writer.push_values.Goals as goal

pub loop-number-preserved : goal.loop-number-preserved
loop-number-preserved g c =
    let t = tuple_of c.args.schema.now (g.X.Span.seen c.args.row.now) in
    record {
      texts = texts_more t c.loop-number.number (fields_of c.loop-number.fields) (fields_of c.push_value.new.fields) (omega (arith, c.loop-number-test.true, length-tuple_of c.args.schema.now (g.X.Span.seen c.args.row.now), ap length c.fields-number-end.ensures.value)) c.loop-number.invariant.texts c.in_ok-push_value.ensures.pushed;
      partial = c.in_ok-push_value.ensures.partial;
    }

pub returns : goal.returns
returns g c =
    let t = tuple_of c.args.schema.now (g.X.Span.seen c.args.row.now) in
    c.loop-number.invariant.texts ∙ ap (map value_text) (take_all c.loop-number.number t (omega (arith, c.loop-number-test.false, length-tuple_of c.args.schema.now (g.X.Span.seen c.args.row.now), ap length c.fields-number-end.ensures.value)))
