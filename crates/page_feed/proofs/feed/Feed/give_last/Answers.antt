-- The open page goes to the reader.
use Rattle.std.proofs.Common.{◌≡◌, ◌+◌, length, vec_len, ap, ◌∙◌, arith}
use Rattle.page_feed.specs.Feeds.{FeedView, pages_to_read}
use Rattle.page_feed.proofs.ListLemmas.{none_there}
use Rattle.page_feed.proofs.StepLemmas.{goes_on, last_given}
use Rattle.page_feed.proofs.feed.Feed.give_last.Goals as goal

pub returns-clause-goes : goal.returns-clause-goes
returns-clause-goes c = λ told.
    let one : vec_len c.pop.new.self + 1 ≡ vec_len c.self.inside.open_page = c.in-Some.ensures.cases in
    let none : length c.pop.new.self.items ≡ 0 = omega (arith, one, c.self.invariant.one, c.self.invariant.counts, c.pop.new.self.ok.0) in
    goes_on _ _ _ _ c.self.view_is
    (last_given told _ c.in-Some.page c.pop.new.self.items c.give.new.self _ (none_there c.pop.new.self.items none) (ap (λ (v : FeedView). v.ahead) c.self.view_is ∙ c.requires.out) (ap (λ (v : FeedView). pages_to_read v.run) c.self.view_is ∙ c.requires.run)
    c.in-Some.ensures.items c.give.ensures.pages c.give.ensures.text c.self.invariant.text (omega (arith, one, c.self.invariant.one, c.self.invariant.counts)))
