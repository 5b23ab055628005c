use Rattle.std.proofs.Common.{◌≡◌, ◌<◌, length, slice_index_or, arith}
use Rattle.std.proofs.lemmas.List.{get_or_default}
use Rattle.flow_types.specs.declared.field_type.FieldType.{FieldType}
use Rattle.flow_types.specs.declared.field_type.FieldType.TheVariants as type
use Rattle.record_codec.proofs.PlaceLemmas.{start_step}
use Rattle.record_codec.proofs.PrefixLemmas.{field_passed}
use Rattle.record_codec.proofs.place.field_start.Goals as goal

pub loop-k-preserved : goal.loop-k-preserved
loop-k-preserved g c =
    let inside : c.loop-k.k < length c.args.fields.now = omega arith in
    let f : FieldType = slice_index_or c.args.fields.now c.loop-k.k type.Long in
    let read : slice_index_or c.args.fields.now c.loop-k.k f ≡ f = get_or_default c.args.fields.now c.loop-k.k f type.Long inside in
    record {
      place = start_step c.args.fields.now (g.X.Span.seen c.args.row.now) c.loop-k.k c.loop-k.start c.next_start-start.result f
          inside read c.loop-k.invariant.place c.next_start-start.ensures;
      inside = c.next_start-start.ensures.inside;
      rest = (field_passed c.args.fields.now (g.X.Span.seen c.args.row.now) c.loop-k.k c.loop-k.start c.next_start-start.result f
          inside read c.next_start-start.ensures).0 c.loop-k.invariant.rest;
    }
