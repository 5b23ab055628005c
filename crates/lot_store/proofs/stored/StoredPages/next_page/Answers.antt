use Rattle.std.proofs.Common.{◌∷◌, ◌++◌}
use Rattle.lot_store.specs.Keeping.{in_hand}
use Rattle.lot_store.proofs.LotLemmas.{keeps_same_told, sound_on}
use Rattle.lot_store.proofs.StepLemmas.{keeps_again, keeps_told, moves_none, moves_taken, trades_taken}
use Rattle.lot_store.proofs.FullLemmas.{full_none, full_taken}
use Rattle.lot_store.proofs.stored.StoredPages.next_page.Goals as goal

pub go_on-requires-clause-sound : goal.go_on-requires-clause-sound
go_on-requires-clause-sound g c =
    sound_on _ _ c.args.self.now c.take_last.new.self c.args.purse.now.pages (c.in-Some.page ∷ c.args.purse.now.pages) c.requires.sound
    (keeps_same_told _ c.args.self.now c.take_last.new.self c.args.purse.now.pages (c.in-Some.page ∷ c.args.purse.now.pages)
    (moves_taken c.args.self.now c.take_last.new.self c.in-Some.page c.args.purse.now.pages c.in-Some.ensures.page c.take_last.ensures.open_page c.take_last.ensures.kept) c.take_last.ensures.run)

pub returns-in-Some-clause-trades : goal.returns-in-Some-clause-trades
returns-in-Some-clause-trades g c =
    trades_taken c.go_on.result _ _ c.args.self.now c.take_last.new.self c.go_on.new.self c.in-Some.page c.in-Some.ensures.page c.take_last.ensures.open_page c.take_last.ensures.kept c.take_last.ensures.run c.go_on.ensures.trades

pub returns-in-Some-clause-keeps : goal.returns-in-Some-clause-keeps
returns-in-Some-clause-keeps g c =
    keeps_told _ _ _ c.args.self.now c.take_last.new.self c.go_on.new.self c.args.purse.now.pages (c.in-Some.page ∷ c.args.purse.now.pages) (in_hand c.go_on.result ++ c.go_on.new.purse.pages)
    (keeps_same_told _ c.args.self.now c.take_last.new.self c.args.purse.now.pages (c.in-Some.page ∷ c.args.purse.now.pages)
    (moves_taken c.args.self.now c.take_last.new.self c.in-Some.page c.args.purse.now.pages c.in-Some.ensures.page c.take_last.ensures.open_page c.take_last.ensures.kept) c.take_last.ensures.run)
    c.go_on.ensures.keeps

pub returns-in-None-clause-keeps : goal.returns-in-None-clause-keeps
returns-in-None-clause-keeps g c =
    keeps_again _ _ c.args.self.now c.take_last.new.self c.args.purse.now.pages c.args.purse.now.pages (c.blank.result ∷ c.blank.new.purse.pages)
    (keeps_same_told _ c.args.self.now c.take_last.new.self c.args.purse.now.pages c.args.purse.now.pages
    (moves_none c.args.self.now c.take_last.new.self c.args.purse.now.pages c.in-None.ensures.page c.take_last.ensures.open_page c.take_last.ensures.kept) c.take_last.ensures.run)
    c.blank.ensures.segments

pub returns-in-Some-clause-full : goal.returns-in-Some-clause-full
returns-in-Some-clause-full g c =
    full_taken c.go_on.result _ _ c.args.self.now c.take_last.new.self c.go_on.new.self c.args.purse.now.pages (c.in-Some.page ∷ c.args.purse.now.pages)
    (moves_taken c.args.self.now c.take_last.new.self c.in-Some.page c.args.purse.now.pages c.in-Some.ensures.page c.take_last.ensures.open_page c.take_last.ensures.kept) c.take_last.ensures.kept c.take_last.ensures.run c.go_on.ensures.full

pub returns-in-None-clause-full : goal.returns-in-None-clause-full
returns-in-None-clause-full g c =
    full_none _ c.args.self.now c.take_last.new.self c.args.purse.now.pages c.take_last.ensures.kept c.take_last.ensures.run
