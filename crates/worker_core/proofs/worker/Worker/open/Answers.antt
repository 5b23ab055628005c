-- Everything was opened.
use Rattle.std.proofs.Common.{◌+◌, ◌/◌, ap, ◌∙◌, arith, length, subst, sym}
use Rattle.lot_store.specs.Storage.{IsReadyAt}
use Rattle.worker_core.proofs.NewWorkers.{new_from, ready_empty, result_low, with_lots}
use Rattle.worker_core.proofs.worker.Worker.open.Goals as goal

pub open_places-requires : goal.open_places-requires
open_places-requires g c = result_low c.args.plan.now (length c.as_slice.result.now + 1) c.requires.rules (omega (arith, ap length c.as_slice.ensures))

pub of-storage-requires : goal.of-storage-requires
of-storage-requires g c =
    subst (λ ls. IsReadyAt c.args.plan.now.segment (record { told = g.D.Spill.told c.args.disk; purse = c.args.purse; lots = ls })) (sym c.in-Ok-open_places.ensures)
    (ready_empty (length c.as_slice.result.now + 1) (c.args.allot.now.cache / (length c.as_slice.result.now + 1)) c.reach.result c.args.plan.now.result
    (result_low c.args.plan.now (length c.as_slice.result.now + 1) c.requires.rules (omega (arith, ap length c.as_slice.ensures)))
    c.args.plan.now.segment (g.D.Spill.told c.args.disk) c.args.purse c.requires.share.sized (omega (arith, c.len-held.ensures.count, c.len-held.ensures.fits)))

pub returns-clause-new : goal.returns-clause-new
returns-clause-new g c =
    new_from g.D.Spill.told c.args.plan.now c.args.allot.now c.args.me (length c.as_slice.result.now + 1) c.reach.result c.args.purse c.args.disk c.in-Ok-open_pipes.pipes.items c.of-storage.result c.requires.rules c.requires.allot c.requires.share
    (omega (arith, ap length c.as_slice.ensures)) c.reach.ensures.number c.in-Ok-open_pipes.ensures
    (c.of-storage.ensures ∙ with_lots c.args.plan.now.segment c.args.purse c.args.disk _ _ c.in-Ok-open_places.ensures)
