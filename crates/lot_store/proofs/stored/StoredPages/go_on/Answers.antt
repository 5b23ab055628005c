use Rattle.std.proofs.Common.{◌∙◌, ◌∷◌, refl, sym}
use Rattle.lot_store.proofs.StepLemmas.{keeps_again}
use Rattle.std.proofs.lemmas.Bool.{false≢true}
use Rattle.lot_store.proofs.FullLemmas.{full_none, full_one}
use Rattle.lot_store.proofs.stored.StoredPages.go_on.Goals as goal

pub returns-in-Ok-clause-keeps : goal.returns-in-Ok-clause-keeps
returns-in-Ok-clause-keeps g c =
    keeps_again _ _ c.args.self.now c.store.new.self (c.args.page ∷ c.args.purse.now.pages) c.store.new.purse.pages (c.blank.result ∷ c.blank.new.purse.pages)
    c.store.ensures.keeps c.blank.ensures.segments

pub returns-then-has_space-clause-full : goal.returns-then-has_space-clause-full
returns-then-has_space-clause-full g c =
    full_none _ c.args.self.now c.args.self.now (c.args.page ∷ c.args.purse.now.pages) refl refl

pub returns-in-Ok-clause-full : goal.returns-in-Ok-clause-full
returns-in-Ok-clause-full g c =
    full_one _ _ c.args.self.now c.store.new.self c.args.page c.args.purse.now.pages c.requires.within (λ below. absurd (false≢true (sym c.if-has_space.false ∙ c.has_space.ensures.1 below))) c.in-Ok.ensures.pages
