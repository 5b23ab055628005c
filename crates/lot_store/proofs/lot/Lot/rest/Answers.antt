use Rattle.std.proofs.Common.{ap}
use Rattle.page_feed.specs.Feeds.{FeedView}
use Rattle.lot_store.proofs.StorageLot.{contents_kept, reads_kept, writes_one}
use Rattle.lot_store.proofs.lot.Lot.rest.Goals as goal

pub returns-clause-preserves : goal.returns-clause-preserves
returns-clause-preserves g c =
    writes_one _ _ c.args.self.now c.come_to_rest.new.self c.args.purse.now c.come_to_rest.new.purse c.come_to_rest.ensures.keeps c.come_to_rest.ensures.segments c.come_to_rest.ensures.room c.come_to_rest.ensures.own (ap (λ (f : FeedView). f.reach) c.come_to_rest.ensures.rest)

pub returns-clause-same : goal.returns-clause-same
returns-clause-same g c =
    contents_kept c.come_to_rest.result _ _ c.args.self.now c.come_to_rest.new.self c.come_to_rest.ensures.same c.come_to_rest.ensures.rows

pub returns-clause-nothing : goal.returns-clause-nothing
returns-clause-nothing g c = λ few.
    let stays = c.come_to_rest.ensures.nothing few in (
      reads_kept _ _ c.args.self.now c.come_to_rest.new.self c.args.purse.now c.come_to_rest.new.purse stays.1 c.come_to_rest.ensures.keeps stays.0 c.come_to_rest.ensures.segments c.come_to_rest.ensures.room (ap (λ (f : FeedView). f.reach) c.come_to_rest.ensures.rest),
      stays.1,
    )
