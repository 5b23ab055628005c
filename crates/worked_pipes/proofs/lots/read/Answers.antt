use Rattle.std.proofs.Common.{◌∙◌}
use Rattle.worked_lots.proofs.WorkedLemmas.{reads_nothing, reads_on}
use Rattle.worked_pipes.proofs.lots.read.Goals as goal

pub records-init : goal.records-init
records-init g c = record {
  untold = c.requires.untold;
  reads = record { ready = c.requires.ready; reads = λ p. reads_nothing _ c.args.lot.now p };
}

pub records-preserved : goal.records-preserved
records-preserved g c = record {
  untold = c.read_next.ensures.disk.told_still ∙ c.records.invariant.untold;
  reads = reads_on _ _ _ c.args.lot.now c.records.lot c.read_next.new.self c.records.invariant.reads c.read_next.ensures.shows.ready c.read_next.ensures.preserves;
}

pub returns-in-Ok-false : goal.returns-in-Ok-false
returns-in-Ok-false g c =
    reads_on _ _ _ c.args.lot.now c.records.lot c.read_next.new.self c.records.invariant.reads c.read_next.ensures.shows.ready c.read_next.ensures.preserves

pub returns-in-Err : goal.returns-in-Err
returns-in-Err g c =
    reads_on _ _ _ c.args.lot.now c.records.lot c.read_next.new.self c.records.invariant.reads c.read_next.ensures.shows.ready c.read_next.ensures.preserves
