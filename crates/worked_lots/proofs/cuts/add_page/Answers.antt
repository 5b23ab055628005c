use Rattle.worked_lots.proofs.WorkedLemmas.{writes_page}
use Rattle.worked_lots.proofs.cuts.add_page.Goals as goal

pub returns-in-Some : goal.returns-in-Some
returns-in-Some g c =
    writes_page _ _ c.args.lot.now c.append_page.new.self c.args.purse.now c.take.new.self c.append_page.new.purse c.in-Some.page c.fill_page.new.page c.requires.untold c.in-Some.ensures.last c.take.ensures.room c.fill_page.ensures c.append_page.ensures.preserves
