use Rattle.expr_core.proofs.ColumnLemmas.{text_written}
use Rattle.expr_core.proofs.columns.write_form.Goals as goal

pub returns-in-Str-clause-bytes : goal.returns-in-Str-clause-bytes
returns-in-Str-clause-bytes g c =
    text_written (g.R.Source.seen c.args.row.now) c.args.room.now c.bring.new.room _ c.write_bytes-in-Str.new.out c.to_be_bytes-in-Str.result
    c.args.seen.now c.in-Str.text c.write_bytes-in-Str.result c.from-in-Str.result c.in-Str.is c.requires.inside c.requires.space c.requires.short
    c.bring.auto.room c.bring.ensures.front c.to_be_bytes-in-Str.ensures c.write_bytes-in-Str.ensures.end c.from-in-Str.ensures c.write_bytes-in-Str.ensures.bytes
