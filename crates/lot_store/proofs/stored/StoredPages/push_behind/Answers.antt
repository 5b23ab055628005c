use Rattle.std.proofs.Common.{[], ◌∷◌, length, refl}
use Rattle.paged_view.specs.Pages.{used_bytes}
use Rattle.lot_store.proofs.LotLemmas.{keeps_same_told}
use Rattle.lot_store.proofs.StepLemmas.{adds_join, adds_last, keeps_beside, keeps_told, moves_beside, moves_join, moves_last, moves_put, put_on, sound_rest}
use Rattle.lot_store.proofs.FullLemmas.{pages_then}
use Rattle.lot_store.proofs.stored.StoredPages.push_behind.Goals as goal

pub store-requires-clause-sound : goal.store-requires-clause-sound
store-requires-clause-sound g c =
    sound_rest _ c.args.self.now c.args.page (c.args.open_page ∷ c.args.purse.now.pages) c.requires.sound

pub put-requires : goal.put-requires
put-requires g c =
    put_on c.args.self.now c.store.new.self c.args.open_page c.args.purse.now.pages c.store.new.purse.pages c.args.purse.now.room c.store.new.purse.room c.store.ensures.segments c.requires.room c.store.ensures.room

pub returns-in-Ok-clause-added : goal.returns-in-Ok-clause-added
returns-in-Ok-clause-added g c =
    adds_join _ _ _ c.args.self.now c.store.new.self c.put_last.new.self (used_bytes c.args.open_page) (used_bytes c.args.page) c.in-Ok.ensures.added
    (adds_last _ c.store.new.self c.put_last.new.self c.args.page c.store.ensures.open_page c.put_last.ensures.open_page c.put_last.ensures.kept c.put_last.ensures.run)

pub returns-in-Ok-clause-keeps : goal.returns-in-Ok-clause-keeps
returns-in-Ok-clause-keeps g c =
    keeps_told _ _ _ c.args.self.now c.store.new.self c.put_last.new.self (c.args.page ∷ c.args.open_page ∷ c.args.purse.now.pages) (c.args.page ∷ c.store.new.purse.pages) c.store.new.purse.pages
    (keeps_beside _ _ c.args.self.now c.store.new.self c.args.page (c.args.open_page ∷ c.args.purse.now.pages) c.store.new.purse.pages c.store.ensures.keeps)
    (keeps_same_told _ c.store.new.self c.put_last.new.self (c.args.page ∷ c.store.new.purse.pages) c.store.new.purse.pages (moves_last c.store.new.self c.put_last.new.self c.args.page c.store.new.purse.pages c.store.ensures.open_page c.put_last.ensures.open_page c.put_last.ensures.kept) c.put_last.ensures.run)

pub returns-in-Ok-clause-segments : goal.returns-in-Ok-clause-segments
returns-in-Ok-clause-segments g c =
    moves_join c.args.self.now c.store.new.self c.put_last.new.self (c.args.page ∷ c.args.open_page ∷ c.args.purse.now.pages) (c.args.page ∷ c.store.new.purse.pages) c.store.new.purse.pages (moves_beside c.args.self.now c.store.new.self c.args.page (c.args.open_page ∷ c.args.purse.now.pages) c.store.new.purse.pages c.store.ensures.segments) (moves_last c.store.new.self c.put_last.new.self c.args.page c.store.new.purse.pages c.store.ensures.open_page c.put_last.ensures.open_page c.put_last.ensures.kept)

pub returns-in-Err-clause-keeps : goal.returns-in-Err-clause-keeps
returns-in-Err-clause-keeps g c =
    keeps_told _ _ _ c.args.self.now c.store.new.self c.store.new.self (c.args.page ∷ c.args.open_page ∷ c.args.purse.now.pages) (c.args.page ∷ c.store.new.purse.pages) c.put.new.self.pages
    (keeps_beside _ _ c.args.self.now c.store.new.self c.args.page (c.args.open_page ∷ c.args.purse.now.pages) c.store.new.purse.pages c.store.ensures.keeps)
    (keeps_same_told _ c.store.new.self c.store.new.self (c.args.page ∷ c.store.new.purse.pages) c.put.new.self.pages (moves_put c.store.new.self c.args.page c.store.new.purse.pages c.put.new.self.pages c.put.ensures.pages) refl)

pub returns-in-Err-clause-segments : goal.returns-in-Err-clause-segments
returns-in-Err-clause-segments g c =
    moves_join c.args.self.now c.store.new.self c.store.new.self (c.args.page ∷ c.args.open_page ∷ c.args.purse.now.pages) (c.args.page ∷ c.store.new.purse.pages) c.put.new.self.pages (moves_beside c.args.self.now c.store.new.self c.args.page (c.args.open_page ∷ c.args.purse.now.pages) c.store.new.purse.pages c.store.ensures.segments) (moves_put c.store.new.self c.args.page c.store.new.purse.pages c.put.new.self.pages c.put.ensures.pages)

pub returns-in-Ok-clause-pages : goal.returns-in-Ok-clause-pages
returns-in-Ok-clause-pages g c =
    pages_then _ _ c.args.self.now c.store.new.self c.put_last.new.self (length (used_bytes c.args.open_page) ∷ []) c.put_last.ensures.kept c.put_last.ensures.run c.in-Ok.ensures.pages
