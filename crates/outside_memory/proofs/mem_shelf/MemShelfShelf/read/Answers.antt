use Rattle.std.proofs.Common.{refl}
use Rattle.outside_memory.proofs.Living.{loses_place}
use Rattle.outside_memory.proofs.mem_shelf.MemShelfShelf.read.Goals as goal

pub returns-then-next_fails-clause-refused : goal.returns-then-next_fails-clause-refused
returns-then-next_fails-clause-refused c = (loses_place _ _ c.requires.lives, refl)
