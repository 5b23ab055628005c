use Rattle.std.proofs.Common.{◌++◌, ◌∙◌, take, map, sym, ap, subst, take_all, arith}
use Rattle.std.proofs.lemmas.Result.{IfOk-weaker}
use Rattle.csv.specs.Writing.{default_writer, row_text}
use Rattle.delim_io.specs.LineWriter.{HoldsText}
use Rattle.delim_io.specs.ResultText.{value_text, row_line, lines_of}
use Rattle.delim_io.proofs.LineTextLemmas.{lines_more}
use Rattle.delim_io.proofs.result_text.lines_text.Goals as goal

pub loop-row-preserved : goal.loop-row-preserved
loop-row-preserved c =
    let rows = c.args.rows.now in
    let at = c.loop-row.row-index in
    let front = lines_of (take at rows) in
    let texts = c.in_ok-push_fields.ensures ∙ ap (map value_text) c.values.ensures in
    let all = ap (λ l. front ++ row_text default_writer l) texts
    ∙ ap (λ t. front ++ row_line t) c.row-item.is
    ∙ sym (lines_more rows at c.row-item.result c.loop-row-test.true) in
    subst (HoldsText c.write_line.new.writer) all (c.in_ok-write_line.ensures front c.loop-row.invariant)

pub returns : goal.returns
returns c =
    let done = take_all c.loop-row.row-index c.args.rows.now (omega arith) in
    let held = subst (λ l. HoldsText c.loop-row.writer (lines_of l)) done c.loop-row.invariant in
    IfOk-weaker c.into_text.result _ _ (λ v holds. holds (lines_of c.args.rows.now) held) c.into_text.ensures
