use Rattle.std.proofs.Common.{List, ◌++◌, ◌∙◌, ap, refl}
use Rattle.std.specs.Prelude.{Option, option_to_list}
use Rattle.segment_core.specs.Segments.{SegmentView}
use Rattle.worked_post.proofs.CrowdLemmas.{later_swap}
use Rattle.worked_post.proofs.crowd.Member.put_page.Goals as goal

pub returns-clause-later : goal.returns-clause-later
returns-clause-later c =
    let left : List SegmentView = c.take.new.self.pages in
    later_swap c.args.post.now.size c.args.self.now _ left c.unwrap-page.result c.write.new.page c.try_put-segment.result.0 refl c.try_put-segment.ensures.here
    (c.take.ensures.last ∙ ap (λ (o : Option SegmentView). left ++ option_to_list o) c.unwrap-page.ensures) c.put.ensures.pages c.write.ensures.id c.write.ensures.len c.try_put-segment.ensures.swaps
