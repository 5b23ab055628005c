use Rattle.worked_lots.proofs.WorkedLemmas.{known_on, reads_nothing, reads_on}
use Rattle.worked_lots.proofs.lots.read.Goals as goal

pub records-init : goal.records-init
records-init g c = record {
  known = c.requires.known;
  reads = record { ready = c.requires.ready; reads = λ p. reads_nothing _ c.args.lot.now p };
}

pub records-preserved : goal.records-preserved
records-preserved g c = record {
  known = known_on _ _ c.records.lot c.read_next.new.self c.in-Ok-true.field-0 c.read_next.new.self.feed.shown c.records.invariant.known c.in-Ok-true.ensures.rows c.in-Ok-true.field-0-test c.read_next.ensures.disk.told_still;
  reads = reads_on _ _ _ c.args.lot.now c.records.lot c.read_next.new.self c.records.invariant.reads c.read_next.ensures.shows.ready c.read_next.ensures.preserves;
}

pub returns-in-Ok-false : goal.returns-in-Ok-false
returns-in-Ok-false g c =
    reads_on _ _ _ c.args.lot.now c.records.lot c.read_next.new.self c.records.invariant.reads c.read_next.ensures.shows.ready c.read_next.ensures.preserves

pub returns-in-Err : goal.returns-in-Err
returns-in-Err g c =
    reads_on _ _ _ c.args.lot.now c.records.lot c.read_next.new.self c.records.invariant.reads c.read_next.ensures.shows.ready c.read_next.ensures.preserves
