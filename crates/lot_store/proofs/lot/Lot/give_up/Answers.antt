use Rattle.std.proofs.Common.{ap, ◌∙◌}
use Rattle.page_feed.specs.Feeds.{block_or}
use Rattle.lot_store.specs.Lots.{LotView}
use Rattle.lot_store.proofs.RestLemmas.{back_fits, lot_keeps_others, lot_of, sound_in, supply_end}
use Rattle.lot_store.proofs.lot.Lot.give_up.Goals as goal

pub drop_lot-requires-clause-supply : goal.drop_lot-requires-clause-supply
drop_lot-requires-clause-supply g c =
    supply_end c.args.self.now c.self.inside.stored c.args.purse.now.pages c.stop.new.purse.pages (ap (λ (v : LotView). v.stored) c.self.view_is ∙ c.stop.ensures.stored) c.stop.ensures.segments c.requires.supply

pub drop_lot-requires-clause-room : goal.drop_lot-requires-clause-room
drop_lot-requires-clause-room g c =
    back_fits c.args.self.now c.self.inside.stored c.args.purse.now.pages c.stop.new.purse.pages c.args.purse.now.room c.stop.new.purse.room (ap (λ (v : LotView). v.stored) c.self.view_is ∙ c.stop.ensures.stored) c.stop.ensures.segments c.stop.ensures.room c.requires.room

pub drop_lot-requires-clause-sound : goal.drop_lot-requires-clause-sound
drop_lot-requires-clause-sound g c =
    sound_in _ c.args.self.now c.self.inside.stored c.args.purse.now.pages c.stop.new.purse.pages (ap (λ (v : LotView). v.stored) c.self.view_is ∙ c.stop.ensures.stored) c.stop.ensures.segments c.requires.sound

pub returns-clause-keeps : goal.returns-clause-keeps
returns-clause-keeps g c =
    lot_keeps_others _ _ c.args.self.now (lot_of c.drop_lot.new.self c.self.inside.feed (block_or c.self.inside.feed.run 0)) c.self.inside.stored c.args.purse.now.pages c.stop.new.purse.pages c.drop_lot.new.purse.pages _ _ (ap (λ (v : LotView). v.stored) c.self.view_is ∙ c.stop.ensures.stored) (ap (λ (v : LotView). v.feed) c.self.view_is ∙ c.stop.ensures.feed) c.stop.ensures.segments c.drop_lot.ensures.keeps
