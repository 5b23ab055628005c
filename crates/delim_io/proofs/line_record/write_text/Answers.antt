use Rattle.std.proofs.Common.{rules, ◌≡◌, Some, length, ap, arith, refl}
use Rattle.flow_types.specs.declared.value.Value.TheVariants as value
use Rattle.record_codec.proofs.EncodeLemmas.{text_written}
use Rattle.delim_io.specs.Fields.{text_value}
use Rattle.delim_io.proofs.FieldLemmas.{text_found, text_invalid}
use Rattle.delim_io.proofs.line_record.write_text.Goals as goal

pub returns-clause-value : goal.returns-clause-value
returns-clause-value c =
    let found : text_value c.args.bound c.args.text.now ≡ Some c.args.text.now = search (rules, text_found, text_invalid) in
    let count : length c.to_be_bytes.result ≡ 2 = ap length c.to_be_bytes.ensures in (
      found,
      omega (arith, c.write_bytes.ensures.end, c.write_bytes-middle.ensures.end, count),
      omega (arith, c.write_bytes.ensures.end, c.write_bytes-middle.ensures.end, count, c.if-text-from.false, c.from.ensures),
      text_written c.args.out.now c.write_bytes-middle.new.out c.write_bytes.new.out c.to_be_bytes.result c.args.text.now c.args.text.now (value.Str c.args.text.now) c.args.start c.write_bytes-middle.result c.write_bytes.result
          (omega (arith, c.requires.room)) refl refl c.to_be_bytes.ensures c.write_bytes-middle.ensures.end c.write_bytes.ensures.end c.write_bytes-middle.ensures.bytes c.write_bytes.ensures.bytes,
    )
