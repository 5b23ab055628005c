use Rattle.std.proofs.Common.{◌∙◌, ◌∷◌}
use Rattle.paged_view.specs.Pages.{used_bytes}
use Rattle.lot_store.proofs.LotLemmas.{keeps_same_told, sound_on}
use Rattle.lot_store.proofs.StepLemmas.{adds_last, adds_taken, keeps_beside, keeps_told, moves_beside, moves_join, moves_last, moves_taken}
use Rattle.lot_store.proofs.FullLemmas.{pages_after, pages_first}
use Rattle.lot_store.proofs.stored.StoredPages.push_page.Goals as goal

pub push_behind-requires-clause-sound : goal.push_behind-requires-clause-sound
push_behind-requires-clause-sound g c =
    sound_on _ _ c.args.self.now c.take_last.new.self (c.args.page ∷ c.args.purse.now.pages) (c.args.page ∷ c.in-Some.open_page ∷ c.args.purse.now.pages) c.requires.sound
    (keeps_beside _ _ c.args.self.now c.take_last.new.self c.args.page c.args.purse.now.pages (c.in-Some.open_page ∷ c.args.purse.now.pages) (keeps_same_told _ c.args.self.now c.take_last.new.self c.args.purse.now.pages (c.in-Some.open_page ∷ c.args.purse.now.pages) (moves_taken c.args.self.now c.take_last.new.self c.in-Some.open_page c.args.purse.now.pages c.in-Some.ensures.page c.take_last.ensures.open_page c.take_last.ensures.kept) c.take_last.ensures.run))

pub returns-in-Some-clause-added : goal.returns-in-Some-clause-added
returns-in-Some-clause-added g c =
    adds_taken c.push_behind.result _ _ c.args.self.now c.take_last.new.self c.push_behind.new.self c.in-Some.open_page (used_bytes c.args.page) c.in-Some.ensures.page c.take_last.ensures.open_page c.take_last.ensures.kept c.take_last.ensures.run c.push_behind.ensures.added

pub returns-in-Some-clause-keeps : goal.returns-in-Some-clause-keeps
returns-in-Some-clause-keeps g c =
    keeps_told _ _ _ c.args.self.now c.take_last.new.self c.push_behind.new.self (c.args.page ∷ c.args.purse.now.pages) (c.args.page ∷ c.in-Some.open_page ∷ c.args.purse.now.pages) c.push_behind.new.purse.pages
    (keeps_beside _ _ c.args.self.now c.take_last.new.self c.args.page c.args.purse.now.pages (c.in-Some.open_page ∷ c.args.purse.now.pages) (keeps_same_told _ c.args.self.now c.take_last.new.self c.args.purse.now.pages (c.in-Some.open_page ∷ c.args.purse.now.pages) (moves_taken c.args.self.now c.take_last.new.self c.in-Some.open_page c.args.purse.now.pages c.in-Some.ensures.page c.take_last.ensures.open_page c.take_last.ensures.kept) c.take_last.ensures.run))
    c.push_behind.ensures.keeps

pub returns-in-Some-clause-segments : goal.returns-in-Some-clause-segments
returns-in-Some-clause-segments g c =
    moves_join c.args.self.now c.take_last.new.self c.push_behind.new.self (c.args.page ∷ c.args.purse.now.pages) (c.args.page ∷ c.in-Some.open_page ∷ c.args.purse.now.pages) c.push_behind.new.purse.pages
    (moves_beside c.args.self.now c.take_last.new.self c.args.page c.args.purse.now.pages (c.in-Some.open_page ∷ c.args.purse.now.pages) (moves_taken c.args.self.now c.take_last.new.self c.in-Some.open_page c.args.purse.now.pages c.in-Some.ensures.page c.take_last.ensures.open_page c.take_last.ensures.kept)) c.push_behind.ensures.segments

pub returns-in-None-clause-added : goal.returns-in-None-clause-added
returns-in-None-clause-added g c =
    adds_last _ c.args.self.now c.put_last.new.self c.args.page c.in-None.ensures.page c.put_last.ensures.open_page (c.put_last.ensures.kept ∙ c.take_last.ensures.kept) (c.put_last.ensures.run ∙ c.take_last.ensures.run)

pub returns-in-None-clause-keeps : goal.returns-in-None-clause-keeps
returns-in-None-clause-keeps g c =
    keeps_same_told _ c.args.self.now c.put_last.new.self (c.args.page ∷ c.args.purse.now.pages) c.args.purse.now.pages
    (moves_last c.args.self.now c.put_last.new.self c.args.page c.args.purse.now.pages c.in-None.ensures.page c.put_last.ensures.open_page (c.put_last.ensures.kept ∙ c.take_last.ensures.kept)) (c.put_last.ensures.run ∙ c.take_last.ensures.run)

pub returns-in-Some-clause-pages : goal.returns-in-Some-clause-pages
returns-in-Some-clause-pages g c =
    pages_after c.push_behind.result _ _ c.args.self.now c.take_last.new.self c.push_behind.new.self c.in-Some.open_page c.in-Some.ensures.page c.take_last.ensures.kept c.take_last.ensures.run c.push_behind.ensures.pages

pub returns-in-None-clause-pages : goal.returns-in-None-clause-pages
returns-in-None-clause-pages g c =
    pages_first _ c.args.self.now c.put_last.new.self c.in-None.ensures.page (c.put_last.ensures.kept ∙ c.take_last.ensures.kept) (c.put_last.ensures.run ∙ c.take_last.ensures.run)
