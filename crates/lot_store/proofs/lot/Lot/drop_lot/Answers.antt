use Rattle.std.proofs.Common.{ap}
use Rattle.page_feed.specs.Feeds.{FeedView}
use Rattle.lot_store.proofs.RestLemmas.{stored_none}
use Rattle.lot_store.proofs.StorageLot.{drops_one, lot_emptied}
use Rattle.lot_store.proofs.lot.Lot.drop_lot.Goals as goal

pub returns-clause-preserves : goal.returns-clause-preserves
returns-clause-preserves g c =
    drops_one c.give_up.result _ _ c.args.self.now c.give_up.new.self c.args.purse.now c.give_up.new.purse c.give_up.ensures.none c.give_up.ensures.keeps c.give_up.ensures.freed c.give_up.ensures.segments c.give_up.ensures.room c.give_up.ensures.own (ap (λ (f : FeedView). f.reach) c.give_up.ensures.rest)

pub returns-clause-empty : goal.returns-clause-empty
returns-clause-empty g c =
    lot_emptied c.give_up.new.self _ _ _ (stored_none c.give_up.new.self c.give_up.ensures.empty) c.give_up.ensures.none c.give_up.ensures.own c.give_up.ensures.rest c.give_up.ensures.seat c.give_up.ensures.forgot
