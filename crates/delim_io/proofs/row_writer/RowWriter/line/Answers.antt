use Rattle.std.proofs.Common.{[], ap, subst}
use Rattle.std.proofs.lemmas.Result.{IfOk-weaker}
use Rattle.csv.specs.Writing.{default_writer, row_text}
use Rattle.flow_types.specs.Records.{tuple_of}
use Rattle.delim_io.specs.LineWriter.{HoldsText}
use Rattle.delim_io.specs.ResultText.{row_line}
use Rattle.delim_io.proofs.row_writer.RowWriter.line.Goals as goal

pub returns : goal.returns
returns g c =
    let held = subst (HoldsText c.write_line.new.writer) (ap (row_text default_writer) c.in_ok-push_values.ensures) (c.in_ok-write_line.ensures [] c.new_writer-writer.ensures) in
    IfOk-weaker c.into_text.result _ _ (λ v holds. holds (row_line (tuple_of c.args.schema.now (g.X.Span.seen c.args.row.now))) held) c.into_text.ensures
