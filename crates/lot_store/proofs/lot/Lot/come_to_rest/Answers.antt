use Rattle.std.proofs.Common.{ap, ◌∙◌}
use Rattle.page_feed.specs.Feeds.{block_or}
use Rattle.lot_store.specs.Lots.{LotView}
use Rattle.lot_store.proofs.RestLemmas.{back_fits, lot_keeps, lot_of, sound_in}
use Rattle.lot_store.proofs.lot.Lot.come_to_rest.Goals as goal

pub rest-requires-clause-room : goal.rest-requires-clause-room
rest-requires-clause-room g c =
    back_fits c.args.self.now c.self.inside.stored c.args.purse.now.pages c.stop.new.purse.pages c.args.purse.now.room c.stop.new.purse.room (ap (λ (v : LotView). v.stored) c.self.view_is ∙ c.stop.ensures.stored) c.stop.ensures.segments c.stop.ensures.room c.requires.room

pub rest-requires-clause-sound : goal.rest-requires-clause-sound
rest-requires-clause-sound g c =
    sound_in _ c.args.self.now c.self.inside.stored c.args.purse.now.pages c.stop.new.purse.pages (ap (λ (v : LotView). v.stored) c.self.view_is ∙ c.stop.ensures.stored) c.stop.ensures.segments c.requires.sound

pub returns-clause-keeps : goal.returns-clause-keeps
returns-clause-keeps g c =
    lot_keeps _ _ c.args.self.now (lot_of c.rest.new.self c.self.inside.feed (block_or c.self.inside.feed.run c.self.inside.last_block)) c.self.inside.stored c.args.purse.now.pages c.stop.new.purse.pages c.rest.new.purse.pages _ _ (ap (λ (v : LotView). v.stored) c.self.view_is ∙ c.stop.ensures.stored) (ap (λ (v : LotView). v.feed) c.self.view_is ∙ c.stop.ensures.feed) c.stop.ensures.segments c.rest.ensures.keeps
