-- All segments stand where they belong.
use Rattle.std.proofs.Common.{◌++◌, ap, ◌∙◌, arith}
use Rattle.page_feed.specs.Feeds.{FeedView, kept_in, open_page_in}
use Rattle.page_feed.proofs.ListLemmas.{stopped_kept, stopped_last}
use Rattle.page_feed.proofs.feed.Feed.stop.Goals as goal

pub returns-clause-kept : goal.returns-clause-kept
returns-clause-kept c =
    stopped_kept c.args.kept.now.items c.turn_over-2.new.to.items c.self.inside.passed.items c.withdraw.new.to.items c.self.inside.ahead.items c.turn_over.new.to.items c.self.inside.reader.pages c.self.inside.of_kept
    c.withdraw.ensures.moved c.turn_over.ensures.moved c.turn_over-2.ensures.moved
    ∙ ap (λ (v : FeedView). c.args.kept.now.items ++ kept_in v) c.self.view_is

pub returns-clause-open_page : goal.returns-clause-open_page
returns-clause-open_page c =
    stopped_last c.args.open_page.now.items c.withdraw_all.new.to.items c.turn_over-3.new.to.items c.self.inside.reader.pages c.withdraw.new.reader.pages c.withdraw_lent.new.reader.pages c.self.inside.open_page.items c.self.inside.of_kept c.self.inside.of_run
    c.withdraw.ensures.pages c.withdraw_lent.ensures.pages c.withdraw_all.ensures.moved c.turn_over-3.ensures.moved (omega (arith, c.self.invariant.one, c.self.invariant.counts, c.self.inside.open_page.ok.0))
    ∙ ap (λ (v : FeedView). c.args.open_page.now.items ++ open_page_in v) c.self.view_is
