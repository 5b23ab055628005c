use Rattle.std.proofs.Common.{take, ap, sym, ◌∙◌}
use Rattle.flow_types.specs.Types.{Fields}
use Rattle.record_codec.specs.Places.{start_of}
use Rattle.record_codec.proofs.PlaceLemmas.{field_content}
use Rattle.record_codec.proofs.place.place_at.Goals as goal

pub returns-clause-bytes : goal.returns-clause-bytes
returns-clause-bytes g c =
    field_content c.fields.result.now c.args.schema.now (g.X.Span.seen c.args.row.now) c.args.i c.start_at-start.result
    c.first_place.result.start c.first_place.result.len c.fields.ensures.value c.requires.exists
    (c.start_at-start.ensures.start ∙ ap (λ (fs : Fields). start_of (take c.args.i fs) (g.X.Span.seen c.args.row.now)) (sym c.fields.ensures.value))
    c.first_place.ensures.bytes
