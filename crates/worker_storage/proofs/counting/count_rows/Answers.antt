-- The lot is rewound, its records are counted, and it comes to rest.
use Rattle.std.proofs.Common.{ap, [], ◌∷◌, true}
use Rattle.lot_store.specs.Storage.{alone}
use Rattle.lot_store.proofs.StorageLaws.{ready_after}
use Rattle.worker_storage.proofs.CountLemmas.{count_whole, fits_read, known_first, reads_on}
use Rattle.worker_storage.proofs.counting.count_rows.Goals as goal

pub count_left-answer-requires-clause-known : goal.count_left-answer-requires-clause-known
count_left-answer-requires-clause-known g c =
    known_first _ _ c.args.lot.now c.rewind.new.self (ap g.D.Spill.told c.rewind.ensures.disk) c.rewind.ensures.rows c.requires.whole

pub rest-requires : goal.rest-requires
rest-requires g c =
    let a = c.args in
    ready_after (alone _ a.purse.now a.lot.now) (alone _ c.rewind.new.purse c.count_left-answer.new.lot) (0 ∷ []) [] true
    (reads_on _ _ _ a.purse.now c.rewind.new.purse c.rewind.new.purse a.lot.now c.rewind.new.self c.count_left-answer.new.lot c.rewind.ensures.preserves (c.count_left-answer.ensures.reads c.rewind.new.purse)) c.requires.ready

pub returns-in-Ok-rest-clause-count : goal.returns-in-Ok-rest-clause-count
returns-in-Ok-rest-clause-count g c =
    count_whole c.count_left-answer.result _ _ c.args.lot.now c.rewind.new.self (ap g.D.Spill.told c.rewind.ensures.disk) c.rewind.ensures.rows c.requires.whole c.count_left-answer.ensures.count

pub returns-in-Ok-rest-clause-reads : goal.returns-in-Ok-rest-clause-reads
returns-in-Ok-rest-clause-reads g c =
    let a = c.args in
    let before = reads_on _ _ _ a.purse.now c.rewind.new.purse c.rewind.new.purse a.lot.now c.rewind.new.self c.count_left-answer.new.lot c.rewind.ensures.preserves (c.count_left-answer.ensures.reads c.rewind.new.purse) in
    reads_on _ _ _ a.purse.now c.rewind.new.purse c.rest.new.purse a.lot.now c.count_left-answer.new.lot c.rest.new.self before
    (c.rest.ensures.nothing (fits_read _ _ a.purse.now c.rewind.new.purse a.lot.now c.count_left-answer.new.lot before c.requires.may.rests)).0

pub returns-in-Err-rest-clause-reads : goal.returns-in-Err-rest-clause-reads
returns-in-Err-rest-clause-reads g c =
    let a = c.args in
    let before = reads_on _ _ _ a.purse.now c.rewind.new.purse c.rewind.new.purse a.lot.now c.rewind.new.self c.count_left-answer.new.lot c.rewind.ensures.preserves (c.count_left-answer.ensures.reads c.rewind.new.purse) in
    reads_on _ _ _ a.purse.now c.rewind.new.purse c.rest.new.purse a.lot.now c.count_left-answer.new.lot c.rest.new.self before
    (c.rest.ensures.nothing (fits_read _ _ a.purse.now c.rewind.new.purse a.lot.now c.count_left-answer.new.lot before c.requires.may.rests)).0
