use Rattle.delim_io.proofs.CsvLemmas.{read_as_parts}
use Rattle.delim_io.proofs.plain_line.plain_line_is_read_as_parts.Goals as goal

pub returns : goal.returns
returns c = read_as_parts
