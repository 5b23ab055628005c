use Rattle.std.proofs.Common.{take}
use Rattle.delim_io.specs.LineWriter.{HoldsText}
use Rattle.delim_io.specs.ResultText.{lines_of}
use Rattle.delim_io.proofs.result_text.lines_text.Given as goal

abbrev pub invariant-loop-row : goal.invariant-loop-row
invariant-loop-row l = HoldsText l.writer (lines_of (take l.row-index l.rows))
