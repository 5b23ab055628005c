-- The lot that stood there holds nothing.
use Rattle.worker_core.proofs.NewWorkers.{taken_none}
use Rattle.worker_core.proofs.opening.open_places.Goals as goal

pub end-requires : goal.end-requires
end-requires c = taken_none c.args.count c.args.room c.args.reach c.args.bare c.put_at.result c.in_ok-lots.lots.items c.requires c.in_ok-lots.ensures c.put_at.ensures.given
