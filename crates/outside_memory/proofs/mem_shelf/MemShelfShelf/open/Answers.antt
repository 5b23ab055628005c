use Rattle.std.proofs.Common.{rules}
use Rattle.outside_memory.proofs.Living.{starts}
use Rattle.outside_memory.proofs.mem_shelf.MemShelfShelf.open.Goals as goal

pub returns-in-Some-clause-started : goal.returns-in-Some-clause-started
returns-in-Some-clause-started c =
    starts _ _ _ _ _ _ (search rules) (search rules) c.start.ensures.fresh c.start.ensures.started
