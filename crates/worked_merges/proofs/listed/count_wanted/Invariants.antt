use Rattle.std.proofs.Common.{◌≡◌, None}
use Rattle.worked_merges.proofs.listed.count_wanted.Given as goal

abbrev pub invariant-loop-at : goal.invariant-loop-at
invariant-loop-at g l = record {
  ready : g.S.RecordStream.IsReady l.stream;
  untold : g.D.Spill.told l.disk ≡ None;
}
