use Rattle.row_pipe.proofs.Adding.{added_row, can_add_on}
use Rattle.row_pipe.proofs.give.add.Goals as goal

pub returns-clause-adds : goal.returns-clause-adds
returns-clause-adds g c = added_row c.append.result _ _ c.args.out.now c.append.new.self c.args.purse.now.pages (g.X.Span.seen c.args.row.now) c.requires.place c.append.ensures.added

pub returns-clause-can : goal.returns-clause-can
returns-clause-can g c = can_add_on c.append.result _ _ c.args.out.now c.append.new.self c.args.purse.now c.append.new.purse c.append.ensures.supply c.append.ensures.preserves c.requires.can
