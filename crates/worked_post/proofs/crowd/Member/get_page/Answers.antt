use Rattle.std.proofs.Common.{List, ◌++◌, ◌∙◌, ap, refl}
use Rattle.std.specs.Prelude.{Option, option_to_list}
use Rattle.segment_core.specs.Segments.{SegmentView}
use Rattle.worked_post.proofs.CrowdLemmas.{later_swap}
use Rattle.worked_post.proofs.crowd.Member.get_page.Goals as goal

pub returns-then-came-clause-later : goal.returns-then-came-clause-later
returns-then-came-clause-later c =
    let left : List SegmentView = c.take.new.self.pages in
    later_swap c.args.post.now.size c.args.self.now _ left c.unwrap-spare.result c.unwrap-spare.result c.try_get-segment.result.0 refl c.try_get-segment.ensures.here
    (c.take.ensures.last ∙ ap (λ (o : Option SegmentView). left ++ option_to_list o) c.unwrap-spare.ensures) c.put.ensures.pages refl refl c.try_get-segment.ensures.swaps

pub returns-else-came-clause-later : goal.returns-else-came-clause-later
returns-else-came-clause-later c =
    let left : List SegmentView = c.take.new.self.pages in
    later_swap c.args.post.now.size c.args.self.now _ left c.unwrap-spare.result c.unwrap-spare.result c.try_get-segment.result.0 refl c.try_get-segment.ensures.here
    (c.take.ensures.last ∙ ap (λ (o : Option SegmentView). left ++ option_to_list o) c.unwrap-spare.ensures) c.put.ensures.pages refl refl c.try_get-segment.ensures.swaps
