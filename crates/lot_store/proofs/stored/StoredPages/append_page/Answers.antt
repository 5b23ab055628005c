use Rattle.std.proofs.Common.{◌∷◌, refl, arith}
use Rattle.lot_store.proofs.LotLemmas.{keeps_same_told, sound_on}
use Rattle.lot_store.proofs.StepLemmas.{moves_join, moves_put, moves_same}
use Rattle.lot_store.proofs.FullLemmas.{puts_nothing, puts_page}
use Rattle.lot_store.proofs.stored.StoredPages.append_page.Goals as goal

pub returns-then-trim-eq0-clause-keeps : goal.returns-then-trim-eq0-clause-keeps
returns-then-trim-eq0-clause-keeps g c =
    keeps_same_told _ c.args.self.now c.args.self.now (c.args.page ∷ c.args.purse.now.pages) c.put.new.self.pages
    (moves_join c.args.self.now c.args.self.now c.args.self.now (c.args.page ∷ c.args.purse.now.pages) (c.trim.new.page ∷ c.args.purse.now.pages) c.put.new.self.pages (moves_same c.args.self.now c.args.page c.trim.new.page c.args.purse.now.pages c.trim.ensures.same) (moves_put c.args.self.now c.trim.new.page c.args.purse.now.pages c.put.new.self.pages c.put.ensures.pages)) refl

pub returns-then-trim-eq0-clause-sound : goal.returns-then-trim-eq0-clause-sound
returns-then-trim-eq0-clause-sound g c =
    sound_on _ _ c.args.self.now c.args.self.now (c.args.page ∷ c.args.purse.now.pages) c.put.new.self.pages c.requires.sound (returns-then-trim-eq0-clause-keeps g c)

pub returns-then-trim-eq0-clause-pages : goal.returns-then-trim-eq0-clause-pages
returns-then-trim-eq0-clause-pages g c =
    puts_nothing _ c.args.self.now c.args.page c.trim.result c.trim.ensures.count c.if-trim-eq0.true

pub returns-clause-pages : goal.returns-clause-pages
returns-clause-pages g c =
    puts_page c.push_page.result _ _ c.args.self.now c.push_page.new.self c.args.page c.trim.new.page c.trim.ensures.same c.trim.ensures.used_bytes (omega (arith, c.trim.ensures.count, c.if-trim-eq0.false)) c.push_page.ensures.open_page c.push_page.ensures.pages
