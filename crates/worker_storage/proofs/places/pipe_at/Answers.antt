use Rattle.std.proofs.Common.{sym, subst, arith}
use Rattle.lot_store.specs.Lots.{LotView}
use Rattle.lot_store.specs.Storage.{lot_at}
use Rattle.row_pipe.specs.Pipes.{HasPassCause}
use Rattle.worker_storage.proofs.Lifting.{written_back}
use Rattle.worker_storage.proofs.places.pipe_at.Goals as goal

pub returns-clause-cause : goal.returns-clause-cause
returns-clause-cause g c =
    subst (λ xs. (d : LotView) → HasPassCause (g.D.Spill.fault_count c.args.io.now.disk.now) (g.D.Spill.fault_count c.pipe_between.new.io.disk.now) (g.D.Spill.told c.args.io.now.disk.now) (lot_at xs c.args.from d) c.pipe_between.result)
    (sym (written_back c.args.lots.now.len c.pipe_between.new.lots c.args.lots.now.items (omega (arith, c.pipe_between.ensures.count)) (omega (arith, c.args.lots.now.ok.0)))) c.pipe_between.ensures.cause
