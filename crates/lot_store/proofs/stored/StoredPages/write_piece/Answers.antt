use Rattle.std.proofs.Common.{◌+◌, ◌≤◌, ◌∷◌, length, sym, subst}
use Rattle.paged_view.specs.Pages.{used_bytes}
use Rattle.lot_store.specs.Stores.{held}
use Rattle.lot_store.proofs.LotLemmas.{sound_on}
use Rattle.lot_store.proofs.StepLemmas.{adds_filled, fits_on, keeps_filled, moves_filled, moves_join}
use Rattle.lot_store.proofs.FullLemmas.{full_filled}
use Rattle.lot_store.proofs.stored.StoredPages.write_piece.Goals as goal

pub returns-in-Ok-clause-added : goal.returns-in-Ok-clause-added
returns-in-Ok-clause-added g c =
    adds_filled _ _ c.args.self.now c.next_page.new.self c.fill.new.self (used_bytes c.in-Ok.page) _ c.next_page.ensures.open_page c.fill.ensures.used_bytes c.fill.ensures.kept c.fill.ensures.run c.in-Ok.ensures.trades

pub returns-in-Ok-clause-keeps : goal.returns-in-Ok-clause-keeps
returns-in-Ok-clause-keeps g c =
    keeps_filled _ _ c.args.self.now c.next_page.new.self c.fill.new.self c.in-Ok.page c.args.purse.now.pages c.next_page.new.purse.pages c.fill.ensures.segments c.fill.ensures.run c.in-Ok.ensures.keeps

pub returns-in-Ok-clause-sound : goal.returns-in-Ok-clause-sound
returns-in-Ok-clause-sound g c =
    sound_on _ _ c.args.self.now c.fill.new.self c.args.purse.now.pages c.next_page.new.purse.pages c.requires.sound (returns-in-Ok-clause-keeps g c)

pub returns-in-Ok-clause-fits : goal.returns-in-Ok-clause-fits
returns-in-Ok-clause-fits g c =
    subst (λ r. length c.next_page.new.purse.pages + length (held c.fill.new.self) ≤ r) (sym c.next_page.ensures.room)
    (fits_on c.args.self.now c.fill.new.self c.args.purse.now.pages c.next_page.new.purse.pages c.args.purse.now.room
    (moves_join c.args.self.now c.next_page.new.self c.fill.new.self c.args.purse.now.pages (c.in-Ok.page ∷ c.next_page.new.purse.pages) c.next_page.new.purse.pages
    c.in-Ok.ensures.segments (moves_filled c.next_page.new.self c.fill.new.self c.in-Ok.page c.next_page.new.purse.pages c.fill.ensures.segments)) c.requires.room)

pub returns-in-Err-clause-sound : goal.returns-in-Err-clause-sound
returns-in-Err-clause-sound g c =
    sound_on _ _ c.args.self.now c.next_page.new.self c.args.purse.now.pages c.next_page.new.purse.pages c.requires.sound c.in-Err.ensures.keeps

pub returns-in-Err-clause-fits : goal.returns-in-Err-clause-fits
returns-in-Err-clause-fits g c =
    subst (λ r. length c.next_page.new.purse.pages + length (held c.next_page.new.self) ≤ r) (sym c.next_page.ensures.room)
    (fits_on c.args.self.now c.next_page.new.self c.args.purse.now.pages c.next_page.new.purse.pages c.args.purse.now.room c.in-Err.ensures.segments c.requires.room)

pub returns-in-Ok-clause-full : goal.returns-in-Ok-clause-full
returns-in-Ok-clause-full g c =
    full_filled _ _ c.args.self.now c.next_page.new.self c.fill.new.self c.args.purse.now.pages c.fill.ensures.kept c.fill.ensures.run c.in-Ok.ensures.full
