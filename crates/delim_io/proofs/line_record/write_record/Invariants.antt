use Rattle.std.proofs.Common.{◌≡◌, length}
use Rattle.delim_io.proofs.LineRecordLemmas.{IsBuilt}
use Rattle.delim_io.proofs.line_record.write_record.Given as goal

abbrev pub invariant-loop-i : goal.invariant-loop-i
invariant-loop-i l = record {
  built : IsBuilt l.schema l.delimiter l.line l.i l.rest l.fn.out l.out l.end;
  space : length l.out ≡ length l.fn.out;
}
