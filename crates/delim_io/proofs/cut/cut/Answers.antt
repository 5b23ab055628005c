use Rattle.delim_io.proofs.CutLemmas.{cut_nowhere, cut_here}
use Rattle.delim_io.proofs.cut.cut.Goals as goal

pub returns-in-None-clause-parts : goal.returns-in-None-clause-parts
returns-in-None-clause-parts c = cut_nowhere c.args.byte c.args.text.now c.in-None.ensures

pub returns-in-Some-clause-parts : goal.returns-in-Some-clause-parts
returns-in-Some-clause-parts c = cut_here c.args.byte c.args.text.now c.in-Some.at c.in-Some.ensures
