use Rattle.delim_io.proofs.LinesLeftLemmas.{all_left}
use Rattle.delim_io.proofs.line_reader.all_rows_are_left.Goals as goal

pub returns : goal.returns
returns c = λ fields delimiter bytes. all_left fields delimiter bytes
