use Rattle.std.proofs.Common.{◌∙◌, refl, sym, ap, is_some}
use Rattle.lot_store.proofs.LotLemmas.{keeps_same_told}
use Rattle.lot_store.proofs.StepLemmas.{keeps_ended, keeps_others, moves_ended, sound_ended, stands_alone, supply_on}
use Rattle.lot_store.proofs.stored.StoredPages.drop_lot.Goals as goal

pub end_run-requires-clause-supply : goal.end_run-requires-clause-supply
end_run-requires-clause-supply g c =
    supply_on c.args.self.now c.give_all.new.self c.args.purse.now.pages c.give_all.new.purse.pages c.give_all.ensures.segments c.give_all.ensures.empty
    (c.requires.supply (ap is_some (sym (c.in-Some.ensures.run ∙ c.give_all.ensures.run))))

pub end_run-requires-clause-stands : goal.end_run-requires-clause-stands
end_run-requires-clause-stands g c =
    stands_alone _ c.args.self.now c.give_all.new.self c.args.purse.now.pages c.give_all.new.purse.pages c.in-Some.writer c.close.result c.requires.sound c.give_all.ensures.segments
    (sym (c.in-Some.ensures.run ∙ c.give_all.ensures.run)) c.close.ensures

pub returns-in-Some-clause-keeps : goal.returns-in-Some-clause-keeps
returns-in-Some-clause-keeps g c =
    keeps_ended _ _ c.args.self.now c.take_run.new.self c.args.purse.now.pages c.end_run.new.purse.pages c.in-Some.writer c.close.result
    (moves_ended c.args.self.now c.give_all.new.self c.take_run.new.self c.args.purse.now.pages c.give_all.new.purse.pages c.end_run.new.purse.pages c.give_all.ensures.segments c.take_run.ensures.kept c.take_run.ensures.open_page c.end_run.ensures.segments)
    (sym (c.in-Some.ensures.run ∙ c.give_all.ensures.run)) c.take_run.ensures.none c.close.ensures
    (stands_alone _ c.args.self.now c.take_run.new.self c.args.purse.now.pages c.end_run.new.purse.pages c.in-Some.writer c.close.result c.requires.sound
    (moves_ended c.args.self.now c.give_all.new.self c.take_run.new.self c.args.purse.now.pages c.give_all.new.purse.pages c.end_run.new.purse.pages c.give_all.ensures.segments c.take_run.ensures.kept c.take_run.ensures.open_page c.end_run.ensures.segments)
    (sym (c.in-Some.ensures.run ∙ c.give_all.ensures.run)) c.close.ensures)
    c.end_run.ensures.others

pub returns-in-Some-clause-sound : goal.returns-in-Some-clause-sound
returns-in-Some-clause-sound g c =
    sound_ended _ _ c.args.self.now c.take_run.new.self c.args.purse.now.pages c.end_run.new.purse.pages c.requires.sound (returns-in-Some-clause-keeps g c)

pub returns-in-None-clause-keeps : goal.returns-in-None-clause-keeps
returns-in-None-clause-keeps g c =
    keeps_others _ _ c.args.self.now c.take_run.new.self c.args.purse.now.pages c.give_all.new.purse.pages
    (keeps_same_told _ c.args.self.now c.take_run.new.self c.args.purse.now.pages c.give_all.new.purse.pages
    (moves_ended c.args.self.now c.give_all.new.self c.take_run.new.self c.args.purse.now.pages c.give_all.new.purse.pages c.give_all.new.purse.pages c.give_all.ensures.segments c.take_run.ensures.kept c.take_run.ensures.open_page (λ h. refl))
    (c.take_run.ensures.none ∙ c.in-None.ensures.run ∙ c.give_all.ensures.run))

pub returns-in-None-clause-sound : goal.returns-in-None-clause-sound
returns-in-None-clause-sound g c =
    sound_ended _ _ c.args.self.now c.take_run.new.self c.args.purse.now.pages c.give_all.new.purse.pages c.requires.sound (returns-in-None-clause-keeps g c)
