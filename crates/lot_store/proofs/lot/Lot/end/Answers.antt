use Rattle.std.proofs.Common.{[], ◌≡◌, subst, sym}
use Rattle.page_feed.specs.Feeds.{block_or}
use Rattle.lot_store.specs.Lots.{LotView, held}
use Rattle.lot_store.proofs.RestLemmas.{feed_none, lot_of, stored_none}
use Rattle.lot_store.proofs.lot.Lot.end.Goals as goal

pub end-requires : goal.end-requires
end-requires c =
    stored_none (lot_of c.self.inside.stored c.self.inside.feed (block_or c.self.inside.feed.run c.self.inside.last_block)) (subst (λ (v : LotView). held v ≡ []) (sym c.self.view_is) c.requires)

pub end-requires-2 : goal.end-requires-2
end-requires-2 c =
    feed_none (lot_of c.self.inside.stored c.self.inside.feed (block_or c.self.inside.feed.run c.self.inside.last_block)) (subst (λ (v : LotView). held v ≡ []) (sym c.self.view_is) c.requires)
