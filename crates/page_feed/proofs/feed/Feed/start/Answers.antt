-- The lists of a feed that begins.
use Rattle.std.proofs.Common.{reverse, ap, ◌∙◌}
use Rattle.page_feed.specs.Feeds.{FeedView, stopped}
use Rattle.page_feed.proofs.ListLemmas.{begun_ahead, begun_last}
use Rattle.page_feed.proofs.feed.Feed.start.Goals as goal

pub returns-clause-begins : goal.returns-clause-begins
returns-clause-begins c =
    let none : FeedView = stopped c.args.self.now.room c.args.self.now.reach in
    let e = c.self.view_is ∙ c.requires.stopped in
    ap (λ (v : FeedView). record v { ahead = reverse c.turn_over.new.to.items; run = c.args.run; open_page = c.turn_over-2.new.to.items; blank = c.lend.new.to.items }) e
    ∙ ap (λ ps. record none { ahead = ps; run = c.args.run; open_page = c.turn_over-2.new.to.items; blank = c.lend.new.to.items }) (begun_ahead c.args.kept.now.items c.self.inside.ahead.items c.turn_over.new.to.items (ap (λ (v : FeedView). v.ahead) e) c.turn_over.ensures.moved)
    ∙ ap (λ ps. record none { ahead = c.args.kept.now.items; run = c.args.run; open_page = ps; blank = c.lend.new.to.items }) (begun_last c.args.open_page.now.items c.self.inside.open_page.items c.turn_over-2.new.to.items (ap (λ (v : FeedView). v.open_page) e) c.turn_over-2.ensures.moved c.requires.fits.1)
