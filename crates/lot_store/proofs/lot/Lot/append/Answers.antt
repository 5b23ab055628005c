use Rattle.std.proofs.Common.{ap}
use Rattle.page_feed.specs.Feeds.{FeedView}
use Rattle.lot_store.proofs.StorageLot.{row_appended, writes_one}
use Rattle.lot_store.proofs.lot.Lot.append.Goals as goal

pub returns-clause-preserves : goal.returns-clause-preserves
returns-clause-preserves g c =
    writes_one _ _ c.args.self.now c.add_row.new.self c.args.purse.now c.add_row.new.purse c.add_row.ensures.keeps c.add_row.ensures.segments c.add_row.ensures.room c.add_row.ensures.own (ap (λ (f : FeedView). f.reach) c.add_row.ensures.rest)

pub returns-clause-added : goal.returns-clause-added
returns-clause-added g c =
    row_appended c.add_row.result _ _ c.args.self.now c.add_row.new.self c.args.purse.now.pages (g.X.Span.seen c.args.row.now) c.add_row.ensures.added c.add_row.ensures.full c.add_row.ensures.rows
