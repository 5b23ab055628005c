use Rattle.std.proofs.Common.{◌∷◌, ap, ◌∙◌}
use Rattle.page_feed.specs.Feeds.{block_or}
use Rattle.lot_store.specs.Lots.{LotView}
use Rattle.lot_store.proofs.RestLemmas.{back_beside, back_fits_page, lot_keeps, lot_moves, lot_of, sound_in, sound_out}
use Rattle.lot_store.proofs.lot.Lot.add_page.Goals as goal

pub append_page-requires-clause-room : goal.append_page-requires-clause-room
append_page-requires-clause-room g c =
    back_fits_page c.args.self.now c.self.inside.stored c.args.purse.now.pages c.stop.new.purse.pages c.args.purse.now.room c.stop.new.purse.room (ap (λ (v : LotView). v.stored) c.self.view_is ∙ c.stop.ensures.stored) c.stop.ensures.segments c.stop.ensures.room c.requires.room

pub append_page-requires-clause-sound : goal.append_page-requires-clause-sound
append_page-requires-clause-sound g c =
    sound_in _ c.args.self.now c.self.inside.stored (c.args.page ∷ c.args.purse.now.pages) (c.args.page ∷ c.stop.new.purse.pages) (ap (λ (v : LotView). v.stored) c.self.view_is ∙ c.stop.ensures.stored) (back_beside c.args.self.now c.args.page c.args.purse.now.pages c.stop.new.purse.pages c.stop.ensures.segments) c.requires.sound

pub returns-clause-keeps : goal.returns-clause-keeps
returns-clause-keeps g c =
    lot_keeps _ _ c.args.self.now (lot_of c.append_page.new.self c.self.inside.feed (block_or c.self.inside.feed.run c.self.inside.last_block)) c.self.inside.stored (c.args.page ∷ c.args.purse.now.pages) (c.args.page ∷ c.stop.new.purse.pages) c.append_page.new.purse.pages _ _ (ap (λ (v : LotView). v.stored) c.self.view_is ∙ c.stop.ensures.stored) (ap (λ (v : LotView). v.feed) c.self.view_is ∙ c.stop.ensures.feed) (back_beside c.args.self.now c.args.page c.args.purse.now.pages c.stop.new.purse.pages c.stop.ensures.segments) c.append_page.ensures.keeps

pub returns-clause-sound : goal.returns-clause-sound
returns-clause-sound g c =
    sound_out _ (lot_of c.append_page.new.self c.self.inside.feed (block_or c.self.inside.feed.run c.self.inside.last_block)) c.append_page.new.purse.pages _ _ (ap (λ (v : LotView). v.feed) c.self.view_is ∙ c.stop.ensures.feed) c.append_page.ensures.sound

pub returns-clause-segments : goal.returns-clause-segments
returns-clause-segments g c =
    lot_moves c.args.self.now (lot_of c.append_page.new.self c.self.inside.feed (block_or c.self.inside.feed.run c.self.inside.last_block)) c.self.inside.stored (c.args.page ∷ c.args.purse.now.pages) (c.args.page ∷ c.stop.new.purse.pages) c.append_page.new.purse.pages _ _ (ap (λ (v : LotView). v.stored) c.self.view_is ∙ c.stop.ensures.stored) (ap (λ (v : LotView). v.feed) c.self.view_is ∙ c.stop.ensures.feed) (back_beside c.args.self.now c.args.page c.args.purse.now.pages c.stop.new.purse.pages c.stop.ensures.segments) c.append_page.ensures.segments
