-- The rows were stored, and the lot came to rest.
use Rattle.std.proofs.Common.{[], ◌∷◌}
use Rattle.flow_outside.specs.Readers.{left_of}
use Rattle.delim_io.specs.LinesLeft.{rows_ahead}
use Rattle.worker_core.proofs.Storing.{may_fill}
use Rattle.superstep.proofs.Loads.{all_rested, keeps_join}
use Rattle.superstep.proofs.loading.load_rows.Goals as goal

pub store_rows-stored-requires-clause-filling : goal.store_rows-stored-requires-clause-filling
store_rows-stored-requires-clause-filling g c = may_fill g.D.Spill.told c.args.plan.now c.args.source c.args.worker.now c.requires.sound

pub returns-in-Ok-rested-clause-stores : goal.returns-in-Ok-rested-clause-stores
returns-in-Ok-rested-clause-stores g c =
    all_rested g.D.Spill.told c.args.plan.now.nodes c.args.source (left_of (g.S.Shelf.readers c.args.shelf.now c.args.id)) (rows_ahead c.args.lines.now) c.in-Ok.count c.args.worker.now c.store_rows-stored.new.worker c.rest_lot-rested.new.self
    (c.in-Ok-rested.ensures.same c.in-Ok.ensures.filling.holds) c.in-Ok.ensures.stores

pub returns-in-Ok-rested-clause-keeps : goal.returns-in-Ok-rested-clause-keeps
returns-in-Ok-rested-clause-keeps g c = keeps_join g.D.Spill.told c.args.worker.now c.store_rows-stored.new.worker c.rest_lot-rested.new.self (c.args.source ∷ []) c.store_rows-stored.ensures.keeps c.rest_lot-rested.ensures.keeps

pub returns-in-Err-rested-clause-keeps : goal.returns-in-Err-rested-clause-keeps
returns-in-Err-rested-clause-keeps g c = keeps_join g.D.Spill.told c.args.worker.now c.store_rows-stored.new.worker c.rest_lot-rested.new.self (c.args.source ∷ []) c.store_rows-stored.ensures.keeps c.rest_lot-rested.ensures.keeps

pub returns-in-Err-clause-keeps : goal.returns-in-Err-clause-keeps
returns-in-Err-clause-keeps g c = keeps_join g.D.Spill.told c.args.worker.now c.store_rows-stored.new.worker c.rest_lot-rested.new.self (c.args.source ∷ []) c.store_rows-stored.ensures.keeps c.rest_lot-rested.ensures.keeps
