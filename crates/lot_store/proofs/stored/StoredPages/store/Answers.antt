use Rattle.std.proofs.Common.{◌∙◌, ◌∷◌}
use Rattle.lot_store.proofs.LotLemmas.{keeps_same_told, moves_kept, sound_on, text_kept_told}
use Rattle.lot_store.proofs.FullLemmas.{pages_kept}
use Rattle.lot_store.proofs.stored.StoredPages.store.Goals as goal

pub returns-then-may_keep-clause-added : goal.returns-then-may_keep-clause-added
returns-then-may_keep-clause-added g c =
    text_kept_told _ c.args.self.now c.keep.new.self c.args.page (c.may_keep.ensures.none c.if-may_keep.true) c.requires.open_page c.keep.ensures.kept
    (c.keep.ensures.run ∙ c.may_keep.ensures.none c.if-may_keep.true) (c.keep.ensures.open_page ∙ c.requires.open_page)

pub returns-then-may_keep-clause-keeps : goal.returns-then-may_keep-clause-keeps
returns-then-may_keep-clause-keeps g c =
    keeps_same_told _ c.args.self.now c.keep.new.self (c.args.page ∷ c.args.purse.now.pages) c.args.purse.now.pages
    (moves_kept c.args.self.now c.keep.new.self c.args.page c.args.purse.now.pages c.keep.ensures.kept c.keep.ensures.open_page) c.keep.ensures.run

pub returns-then-may_keep-clause-sound : goal.returns-then-may_keep-clause-sound
returns-then-may_keep-clause-sound g c =
    sound_on _ _ c.args.self.now c.keep.new.self (c.args.page ∷ c.args.purse.now.pages) c.args.purse.now.pages c.requires.sound (returns-then-may_keep-clause-keeps g c)

pub returns-then-may_keep-clause-segments : goal.returns-then-may_keep-clause-segments
returns-then-may_keep-clause-segments g c =
    moves_kept c.args.self.now c.keep.new.self c.args.page c.args.purse.now.pages c.keep.ensures.kept c.keep.ensures.open_page

pub returns-then-may_keep-clause-pages : goal.returns-then-may_keep-clause-pages
returns-then-may_keep-clause-pages g c =
    pages_kept _ c.args.self.now c.keep.new.self c.args.page (c.may_keep.ensures.none c.if-may_keep.true) (c.keep.ensures.run ∙ c.may_keep.ensures.none c.if-may_keep.true) c.keep.ensures.kept
