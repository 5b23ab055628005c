use Rattle.std.proofs.Common.{arith, ◌∙◌}
use Rattle.record_codec.proofs.EncodeLemmas.{text_written, text_is_value}
use Rattle.record_codec.proofs.encode.write_value.Goals as goal

pub returns-in-Str-clause-bytes : goal.returns-in-Str-clause-bytes
returns-in-Str-clause-bytes c =
    text_written c.args.out.now c.write_bytes-start.new.out c.write_bytes-in-Str.new.out c.to_be_bytes-len.result c.as_bytes-text.result.now
    c.in-Str.text c.args.value.now c.args.start c.write_bytes-start.result c.write_bytes-in-Str.result (omega arith) c.in-Str.is
    (c.as_bytes-text.ensures.value ∙ c.as_str.ensures.value) c.to_be_bytes-len.ensures c.write_bytes-start.ensures.end c.write_bytes-in-Str.ensures.end
    c.write_bytes-start.ensures.bytes c.write_bytes-in-Str.ensures.bytes

pub returns-in-Str-clause-value : goal.returns-in-Str-clause-value
returns-in-Str-clause-value c =
    text_is_value c.args.value.now c.in-Str.text c.as_str.result.now c.in-Str.is c.as_str.ensures.value c.as_str.ensures.bound c.as_str.utf8
