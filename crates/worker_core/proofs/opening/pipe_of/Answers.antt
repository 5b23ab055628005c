-- The pipe of a node that goes row by row.
use Rattle.std.proofs.Common.{refl}
use Rattle.worker_core.proofs.opening.pipe_of.Goals as goal

pub returns-in_ok-open-in-Map : goal.returns-in_ok-open-in-Map
returns-in_ok-open-in-Map c = λ some. (
  c.in_ok-open-in-Map.field-0,
  refl,
  record {
    takes = c.in_ok-open-in-Map.ensures.takes;
    work = c.in_ok-open-in-Map.ensures.work;
    narrow = c.in_ok-open-in-Map.ensures.narrow;
  },
)
