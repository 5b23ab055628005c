use Rattle.std.proofs.Common.{◌≡◌, List, ◌++◌, drop, length, take, ap, ◌∙◌, arith}
use Rattle.std.specs.List.{flat_map}
use Rattle.segment_core.specs.Segments.{segment_sum}
use Rattle.run_merge.specs.Collected.{Collected}
use Rattle.run_merge.specs.declared.source.Source.{Source}
use Rattle.run_merge.proofs.TakeLemmas.{front_of}
use Rattle.run_merge.proofs.streams.Streams.take_least.Goals as goal

pub returns-clause-segments : goal.returns-clause-segments
returns-clause-segments g c h =
    let whole : take c.self.inside.items.len (c.take_least.new.sources ++ drop (length c.take_least.new.sources) c.self.inside.items.items) ≡ c.take_least.new.sources =
    front_of c.self.inside.items.len c.take_least.new.sources (drop (length c.take_least.new.sources) c.self.inside.items.items) (omega (arith, c.take_least.ensures.count, c.deref_mut.ensures.len)) in
    ap (λ (xs : List (Source g.row.R.Denot)). segment_sum h (flat_map (λ s. g.R.RecordStream.held s.stream) xs)) whole
    ∙ (c.take_least.ensures.segments h
    ∙ ap (λ (xs : List (Source g.row.R.Denot)). segment_sum h (flat_map (λ s. g.R.RecordStream.held s.stream) xs)) (c.deref_mut.ensures.value ∙ ap (λ (v : Collected g.row.R.Denot). v.sources) c.self.view_is))
