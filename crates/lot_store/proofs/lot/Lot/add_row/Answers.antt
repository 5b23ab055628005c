use Rattle.std.proofs.Common.{ap, ◌∙◌}
use Rattle.page_feed.specs.Feeds.{block_or}
use Rattle.lot_store.specs.Lots.{LotView}
use Rattle.lot_store.proofs.RestLemmas.{back_fits, lot_full, lot_keeps, lot_moves, lot_of, sound_in, sound_out, supply_in}
use Rattle.lot_store.proofs.RowLemmas.{lot_row}
use Rattle.lot_store.proofs.lot.Lot.add_row.Goals as goal

pub append-answer-requires-clause-supply : goal.append-answer-requires-clause-supply
append-answer-requires-clause-supply g c =
    supply_in c.args.self.now c.self.inside.stored c.args.purse.now.pages c.stop.new.purse.pages (ap (λ (v : LotView). v.stored) c.self.view_is ∙ c.stop.ensures.stored) c.stop.ensures.segments c.requires.supply

pub append-answer-requires-clause-room : goal.append-answer-requires-clause-room
append-answer-requires-clause-room g c =
    back_fits c.args.self.now c.self.inside.stored c.args.purse.now.pages c.stop.new.purse.pages c.args.purse.now.room c.stop.new.purse.room (ap (λ (v : LotView). v.stored) c.self.view_is ∙ c.stop.ensures.stored) c.stop.ensures.segments c.stop.ensures.room c.requires.room

pub append-answer-requires-clause-sound : goal.append-answer-requires-clause-sound
append-answer-requires-clause-sound g c =
    sound_in _ c.args.self.now c.self.inside.stored c.args.purse.now.pages c.stop.new.purse.pages (ap (λ (v : LotView). v.stored) c.self.view_is ∙ c.stop.ensures.stored) c.stop.ensures.segments c.requires.sound

pub returns-clause-full : goal.returns-clause-full
returns-clause-full g c =
    lot_full c.append-answer.result _ _ c.args.self.now (lot_of c.append-answer.new.self c.self.inside.feed (block_or c.self.inside.feed.run c.self.inside.last_block)) c.self.inside.stored c.args.purse.now.pages c.stop.new.purse.pages _ _ (ap (λ (v : LotView). v.stored) c.self.view_is ∙ c.stop.ensures.stored) (ap (λ (v : LotView). v.feed) c.self.view_is ∙ c.stop.ensures.feed) c.stop.ensures.segments c.append-answer.ensures.full

pub returns-clause-keeps : goal.returns-clause-keeps
returns-clause-keeps g c =
    lot_keeps _ _ c.args.self.now (lot_of c.append-answer.new.self c.self.inside.feed (block_or c.self.inside.feed.run c.self.inside.last_block)) c.self.inside.stored c.args.purse.now.pages c.stop.new.purse.pages c.append-answer.new.purse.pages _ _ (ap (λ (v : LotView). v.stored) c.self.view_is ∙ c.stop.ensures.stored) (ap (λ (v : LotView). v.feed) c.self.view_is ∙ c.stop.ensures.feed) c.stop.ensures.segments c.append-answer.ensures.keeps

pub returns-clause-segments : goal.returns-clause-segments
returns-clause-segments g c =
    lot_moves c.args.self.now (lot_of c.append-answer.new.self c.self.inside.feed (block_or c.self.inside.feed.run c.self.inside.last_block)) c.self.inside.stored c.args.purse.now.pages c.stop.new.purse.pages c.append-answer.new.purse.pages _ _ (ap (λ (v : LotView). v.stored) c.self.view_is ∙ c.stop.ensures.stored) (ap (λ (v : LotView). v.feed) c.self.view_is ∙ c.stop.ensures.feed) c.stop.ensures.segments c.append-answer.ensures.segments

pub returns-clause-rows : goal.returns-clause-rows
returns-clause-rows g c =
    lot_row c.append-answer.result _ _ c.args.self.now (lot_of c.append-answer.new.self c.self.inside.feed (block_or c.self.inside.feed.run c.self.inside.last_block)) c.self.inside.stored c.args.purse.now.pages c.stop.new.purse.pages c.append-answer.new.purse.pages (g.X.Span.seen c.args.row.now) (ap (λ (v : LotView). v.stored) c.self.view_is ∙ c.stop.ensures.stored) (ap (λ (v : LotView). v.feed) c.self.view_is ∙ c.stop.ensures.feed) c.stop.ensures.segments c.limits.ensures c.limits-2.ensures c.requires.len
    c.append-answer.ensures.keeps c.append-answer.ensures.full c.append-answer.ensures.added

pub returns-clause-sound : goal.returns-clause-sound
returns-clause-sound g c =
    sound_out _ (lot_of c.append-answer.new.self c.self.inside.feed (block_or c.self.inside.feed.run c.self.inside.last_block)) c.append-answer.new.purse.pages _ _ (ap (λ (v : LotView). v.feed) c.self.view_is ∙ c.stop.ensures.feed) c.append-answer.ensures.sound
