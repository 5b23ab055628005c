use Rattle.std.proofs.Common.{◌+◌, ◌≤◌, ◌∷◌, length, sym, subst}
use Rattle.lot_store.specs.Stores.{held}
use Rattle.lot_store.proofs.LotLemmas.{keeps_same_told, sound_on}
use Rattle.lot_store.proofs.StepLemmas.{adds_rested, fits_on, keeps_told, moves_join, moves_taken}
use Rattle.lot_store.proofs.FullLemmas.{sizes_kept, sizes_rested}
use Rattle.lot_store.proofs.stored.StoredPages.rest.Goals as goal

pub spill_out-requires-clause-sound : goal.spill_out-requires-clause-sound
spill_out-requires-clause-sound g c =
    sound_on _ _ c.args.self.now c.take_last.new.self c.args.purse.now.pages (c.in-Some.page ∷ c.args.purse.now.pages) c.requires.sound
    (keeps_same_told _ c.args.self.now c.take_last.new.self c.args.purse.now.pages (c.in-Some.page ∷ c.args.purse.now.pages)
    (moves_taken c.args.self.now c.take_last.new.self c.in-Some.page c.args.purse.now.pages c.in-Some.ensures.page c.take_last.ensures.open_page c.take_last.ensures.kept) c.take_last.ensures.run)

pub returns-clause-same : goal.returns-clause-same
returns-clause-same g c =
    adds_rested c.spill_out.result _ _ c.args.self.now c.take_last.new.self c.spill_out.new.self c.in-Some.page c.in-Some.ensures.page c.take_last.ensures.open_page c.take_last.ensures.kept c.take_last.ensures.run c.spill_out.ensures.added

pub returns-clause-keeps : goal.returns-clause-keeps
returns-clause-keeps g c =
    keeps_told _ _ _ c.args.self.now c.take_last.new.self c.spill_out.new.self c.args.purse.now.pages (c.in-Some.page ∷ c.args.purse.now.pages) c.spill_out.new.purse.pages
    (keeps_same_told _ c.args.self.now c.take_last.new.self c.args.purse.now.pages (c.in-Some.page ∷ c.args.purse.now.pages)
    (moves_taken c.args.self.now c.take_last.new.self c.in-Some.page c.args.purse.now.pages c.in-Some.ensures.page c.take_last.ensures.open_page c.take_last.ensures.kept) c.take_last.ensures.run)
    c.spill_out.ensures.keeps

pub returns-clause-fits : goal.returns-clause-fits
returns-clause-fits g c =
    subst (λ r. length c.spill_out.new.purse.pages + length (held c.spill_out.new.self) ≤ r) (sym c.spill_out.ensures.room)
    (fits_on c.args.self.now c.spill_out.new.self c.args.purse.now.pages c.spill_out.new.purse.pages c.args.purse.now.room
    (moves_join c.args.self.now c.take_last.new.self c.spill_out.new.self c.args.purse.now.pages (c.in-Some.page ∷ c.args.purse.now.pages) c.spill_out.new.purse.pages
    (moves_taken c.args.self.now c.take_last.new.self c.in-Some.page c.args.purse.now.pages c.in-Some.ensures.page c.take_last.ensures.open_page c.take_last.ensures.kept)
    c.spill_out.ensures.segments) c.requires.room)

pub returns-then-fits_room-clause-sizes : goal.returns-then-fits_room-clause-sizes
returns-then-fits_room-clause-sizes g c = sizes_kept _ c.args.self.now

pub returns-clause-sizes : goal.returns-clause-sizes
returns-clause-sizes g c =
    sizes_rested c.spill_out.result _ _ c.args.self.now c.take_last.new.self c.spill_out.new.self c.in-Some.page c.in-Some.ensures.page c.take_last.ensures.kept c.take_last.ensures.run c.spill_out.ensures.open_page c.spill_out.ensures.pages
