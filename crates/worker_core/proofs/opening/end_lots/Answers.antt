-- One lot less.
use Rattle.worker_core.proofs.PipeLists.{held_front, held_last}
use Rattle.worker_core.proofs.opening.end_lots.Goals as goal

pub end-requires : goal.end-requires
end-requires c = held_last c.lots.lots.items c.pop.new.self.items c.in-Some.lot c.in-Some.ensures.items c.lots.invariant

pub lots-preserved : goal.lots-preserved
lots-preserved c = held_front c.lots.lots.items c.pop.new.self.items c.in-Some.lot c.in-Some.ensures.items c.lots.invariant
