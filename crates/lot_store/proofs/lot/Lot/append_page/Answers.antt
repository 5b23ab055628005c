use Rattle.std.proofs.Common.{ap}
use Rattle.page_feed.specs.Feeds.{FeedView}
use Rattle.lot_store.specs.Storage.{with_segment}
use Rattle.lot_store.proofs.StorageLot.{page_appended, writes_one}
use Rattle.lot_store.proofs.lot.Lot.append_page.Goals as goal

pub returns-clause-preserves : goal.returns-clause-preserves
returns-clause-preserves g c =
    writes_one _ _ c.args.self.now c.add_page.new.self (with_segment c.args.page c.args.purse.now) c.add_page.new.purse c.add_page.ensures.keeps c.add_page.ensures.segments c.add_page.ensures.room c.add_page.ensures.own (ap (λ (f : FeedView). f.reach) c.add_page.ensures.rest)

pub returns-clause-added : goal.returns-clause-added
returns-clause-added g c =
    page_appended c.add_page.result _ _ c.args.page c.args.self.now c.add_page.new.self c.add_page.ensures.added c.add_page.ensures.pages
