-- The next kept page goes to the reader.
use Rattle.std.proofs.Common.{◌≡◌, ◌∷◌, [], List, reverse, vec_len, length, ap, ◌∙◌, arith}
use Rattle.std.proofs.lemmas.List.{reverse-append}
use Rattle.segment_core.specs.Segments.{SegmentView}
use Rattle.page_feed.proofs.StepLemmas.{count_kept, goes_on, kept_given}
use Rattle.page_feed.proofs.feed.Feed.give_kept.Goals as goal

pub returns-clause-goes : goal.returns-clause-goes
returns-clause-goes c = λ told.
    let rest : List SegmentView = c.pop.new.self.items in
    let turned : reverse c.self.inside.ahead.items ≡ c.in-Some.page ∷ reverse rest = ap reverse c.in-Some.ensures.items ∙ reverse-append rest (c.in-Some.page ∷ []) in
    let counts = count_kept c.self.inside.of_kept c.self.inside.of_run (length c.self.inside.reader.pages) (vec_len c.self.inside.ahead) c.self.invariant.counts c.self.invariant.kept_first c.self.invariant.ahead_out (omega (arith, c.in-Some.ensures.cases)) in
    goes_on _ _ _ _ c.self.view_is
    (kept_given told _ c.in-Some.page (reverse rest) c.give.new.self _ turned c.give.ensures.pages c.give.ensures.text c.self.invariant.text counts.0 counts.1)
