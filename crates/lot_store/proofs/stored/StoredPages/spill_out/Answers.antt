use Rattle.std.proofs.Common.{◌∙◌, ◌∷◌}
use Rattle.lot_store.proofs.LotLemmas.{keeps_either, moves_out, on_ok_map, sound_on, spilled_fits, text_spilled_told}
use Rattle.lot_store.proofs.FullLemmas.{pages_spilled}
use Rattle.lot_store.proofs.stored.StoredPages.spill_out.Goals as goal

pub spill_page-answer-requires-clause-stands : goal.spill_page-answer-requires-clause-stands
spill_page-answer-requires-clause-stands g c =
    spilled_fits _ c.args.self.now c.args.page c.args.purse.now.pages c.requires.sound

pub returns-clause-added : goal.returns-clause-added
returns-clause-added g c =
    on_ok_map c.spill_page-answer.result _ _
    (text_spilled_told _ _ _ c.args.self.now c.spill_page-answer.new.self c.args.page c.spill_page-answer.new.page c.requires.open_page c.spill_page-answer.ensures.kept (c.spill_page-answer.ensures.open_page ∙ c.requires.open_page) c.spill_page-answer.ensures.used_bytes)
    c.spill_page-answer.ensures.longer

pub returns-clause-keeps : goal.returns-clause-keeps
returns-clause-keeps g c =
    keeps_either c.spill_page-answer.result _ _ c.args.self.now c.spill_page-answer.new.self c.args.page c.spill_page-answer.new.page.bytes c.args.purse.now.pages c.put.new.self.pages
    (moves_out c.args.self.now c.spill_page-answer.new.self c.args.page c.spill_page-answer.new.page c.args.purse.now.pages c.put.new.self.pages c.spill_page-answer.ensures.same c.spill_page-answer.ensures.kept c.spill_page-answer.ensures.open_page c.put.ensures.pages)
    c.spill_page-answer.ensures.longer c.spill_page-answer.ensures.refused

pub returns-clause-sound : goal.returns-clause-sound
returns-clause-sound g c =
    sound_on _ _ c.args.self.now c.spill_page-answer.new.self (c.args.page ∷ c.args.purse.now.pages) c.put.new.self.pages c.requires.sound (returns-clause-keeps g c)

pub returns-clause-pages : goal.returns-clause-pages
returns-clause-pages g c =
    on_ok_map c.spill_page-answer.result _ _
    (pages_spilled _ _ _ c.args.self.now c.spill_page-answer.new.self c.args.page c.spill_page-answer.new.page c.spill_page-answer.ensures.kept c.spill_page-answer.ensures.used_bytes)
    c.spill_page-answer.ensures.longer
