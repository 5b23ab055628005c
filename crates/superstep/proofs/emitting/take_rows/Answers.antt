-- The lot was rewound, read, and brought to rest.
use Rattle.std.proofs.Common.{ap, ◌∙◌, true, [], ◌∷◌}
use Rattle.std.specs.Global.{Vec}
use Rattle.flow_types.specs.Tuples.{Tuple}
use Rattle.lot_store.specs.Storage.{alone}
use Rattle.lot_store.proofs.StorageLaws.{ready_after}
use Rattle.superstep.proofs.Emits.{held_lent, none_held, reads_join, rows_of_it}
use Rattle.superstep.proofs.emitting.take_rows.Goals as goal

pub rest-requires : goal.rest-requires
rest-requires g c =
    ready_after (alone (g.D.Spill.told c.args.disk.now) c.args.purse.now c.args.place.now) (alone (g.D.Spill.told c.read_rows-rows.new.disk) c.rewind.new.purse c.read_rows-rows.new.place) (0 ∷ []) [] true
    (reads_join _ _ _ c.args.purse.now c.rewind.new.purse c.rewind.new.purse c.args.place.now c.rewind.new.self c.read_rows-rows.new.place c.rewind.ensures.preserves (c.read_rows-rows.ensures.reads c.rewind.new.purse)) c.requires.ready

pub returns-in-Ok-rest-clause-rows : goal.returns-in-Ok-rest-clause-rows
returns-in-Ok-rest-clause-rows g c =
    rows_of_it (λ (v : Vec Tuple). v.items) c.args.schema.now (g.D.Spill.told c.args.disk.now) (g.D.Spill.told c.rewind.new.disk) c.args.place.now c.rewind.new.self c.read_rows-rows.result (ap g.D.Spill.told c.rewind.ensures.disk) c.requires.holds c.rewind.ensures.rows c.read_rows-rows.ensures.rows

pub returns-in-Ok-rest-clause-reads : goal.returns-in-Ok-rest-clause-reads
returns-in-Ok-rest-clause-reads g c =
    let read = reads_join _ _ _ c.args.purse.now c.rewind.new.purse c.rewind.new.purse c.args.place.now c.rewind.new.self c.read_rows-rows.new.place c.rewind.ensures.preserves (c.read_rows-rows.ensures.reads c.rewind.new.purse) in
    reads_join _ _ _ c.args.purse.now c.rewind.new.purse c.rest.new.purse c.args.place.now c.read_rows-rows.new.place c.rest.new.self read (c.rest.ensures.nothing (held_lent c.args.place.now c.read_rows-rows.new.place c.requires.bare.0 c.requires.bare.1 (read.pages 0 c.args.place.now tt) (read.rooms 0 c.args.place.now))).0

pub returns-in-Ok-rest-clause-bare : goal.returns-in-Ok-rest-clause-bare
returns-in-Ok-rest-clause-bare g c =
    let read = reads_join _ _ _ c.args.purse.now c.rewind.new.purse c.rewind.new.purse c.args.place.now c.rewind.new.self c.read_rows-rows.new.place c.rewind.ensures.preserves (c.read_rows-rows.ensures.reads c.rewind.new.purse) in
    none_held c.rest.new.self c.args.place.now.stored.room c.rest.ensures.rests (c.rest.ensures.preserves.rooms 0 c.args.place.now ∙ read.rooms 0 c.args.place.now) c.requires.bare.1

pub returns-in-Ok-rest-clause-tells : goal.returns-in-Ok-rest-clause-tells
returns-in-Ok-rest-clause-tells g c =
    let read = reads_join _ _ _ c.args.purse.now c.rewind.new.purse c.rewind.new.purse c.args.place.now c.rewind.new.self c.read_rows-rows.new.place c.rewind.ensures.preserves (c.read_rows-rows.ensures.reads c.rewind.new.purse) in
    (c.rest.ensures.nothing (held_lent c.args.place.now c.read_rows-rows.new.place c.requires.bare.0 c.requires.bare.1 (read.pages 0 c.args.place.now tt) (read.rooms 0 c.args.place.now))).1 ∙ c.read_rows-rows.ensures.tells ∙ ap g.D.Spill.told c.rewind.ensures.disk

pub returns-in-Err-rest-clause-reads : goal.returns-in-Err-rest-clause-reads
returns-in-Err-rest-clause-reads g c =
    let read = reads_join _ _ _ c.args.purse.now c.rewind.new.purse c.rewind.new.purse c.args.place.now c.rewind.new.self c.read_rows-rows.new.place c.rewind.ensures.preserves (c.read_rows-rows.ensures.reads c.rewind.new.purse) in
    reads_join _ _ _ c.args.purse.now c.rewind.new.purse c.rest.new.purse c.args.place.now c.read_rows-rows.new.place c.rest.new.self read (c.rest.ensures.nothing (held_lent c.args.place.now c.read_rows-rows.new.place c.requires.bare.0 c.requires.bare.1 (read.pages 0 c.args.place.now tt) (read.rooms 0 c.args.place.now))).0

pub returns-in-Err-rest-clause-bare : goal.returns-in-Err-rest-clause-bare
returns-in-Err-rest-clause-bare g c =
    let read = reads_join _ _ _ c.args.purse.now c.rewind.new.purse c.rewind.new.purse c.args.place.now c.rewind.new.self c.read_rows-rows.new.place c.rewind.ensures.preserves (c.read_rows-rows.ensures.reads c.rewind.new.purse) in
    none_held c.rest.new.self c.args.place.now.stored.room c.rest.ensures.rests (c.rest.ensures.preserves.rooms 0 c.args.place.now ∙ read.rooms 0 c.args.place.now) c.requires.bare.1

pub returns-in-Err-rest-clause-tells : goal.returns-in-Err-rest-clause-tells
returns-in-Err-rest-clause-tells g c =
    let read = reads_join _ _ _ c.args.purse.now c.rewind.new.purse c.rewind.new.purse c.args.place.now c.rewind.new.self c.read_rows-rows.new.place c.rewind.ensures.preserves (c.read_rows-rows.ensures.reads c.rewind.new.purse) in
    (c.rest.ensures.nothing (held_lent c.args.place.now c.read_rows-rows.new.place c.requires.bare.0 c.requires.bare.1 (read.pages 0 c.args.place.now tt) (read.rooms 0 c.args.place.now))).1 ∙ c.read_rows-rows.ensures.tells ∙ ap g.D.Spill.told c.rewind.ensures.disk
