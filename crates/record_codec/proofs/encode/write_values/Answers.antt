use Rattle.std.proofs.Common.{◌≡◌, ◌+◌, ◌<◌, ◌≤◌, length, take, arith}
use Rattle.flow_types.specs.declared.value.Value.{Value}
use Rattle.flow_types.specs.Records.{size, value_form}
use Rattle.record_codec.proofs.EncodeLemmas.{value_written, held_more, size_more, size_front}
use Rattle.record_codec.proofs.encode.write_values.Goals as goal

pub write_value-start-requires : goal.write_value-start-requires
write_value-start-requires c =
    let v : Value = c.value-item.result in
    let inside : c.loop-value.value-index < length c.args.values.now = omega arith in
    let more : size (take (c.loop-value.value-index + 1) c.args.values.now) ≡ size (take c.loop-value.value-index c.args.values.now) + length (value_form v) =
    size_more c.args.values.now c.loop-value.value-index v inside c.value-item.is in
    let front : size (take (c.loop-value.value-index + 1) c.args.values.now) ≤ size c.args.values.now = size_front c.args.values.now (c.loop-value.value-index + 1) in
    omega arith

pub loop-value-preserved : goal.loop-value-preserved
loop-value-preserved c =
    let v : Value = c.value-item.result in
    let inside : c.loop-value.value-index < length c.args.values.now = omega arith in
    record {
      place = omega (arith, size_more c.args.values.now c.loop-value.value-index v inside c.value-item.is);
      bytes = value_written c.args.values.now c.args.out.now c.loop-value.out c.write_value-start.new.out c.loop-value.value-index c.loop-value.start
          c.write_value-start.result v inside c.value-item.is c.loop-value.invariant.place c.write_value-start.ensures.end c.loop-value.invariant.bytes
          c.write_value-start.ensures.bytes;
      held = held_more c.args.values.now c.loop-value.value-index v inside c.value-item.is c.loop-value.invariant.held c.write_value-start.ensures.value;
    }
