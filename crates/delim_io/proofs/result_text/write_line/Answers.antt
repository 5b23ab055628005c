use Rattle.csv.specs.Records.{fields_of}
use Rattle.delim_io.proofs.LineTextLemmas.{text_more}
use Rattle.delim_io.proofs.result_text.write_line.Goals as goal

pub returns : goal.returns
returns c text before =
    let wrote = c.in-Ok.ensures in
    text_more c.args.writer.now c.write_byte_record.new.self text (fields_of c.args.fields.now) before wrote.setup wrote.ended wrote.clean (wrote.bytes before.no_field before.no_byte)
