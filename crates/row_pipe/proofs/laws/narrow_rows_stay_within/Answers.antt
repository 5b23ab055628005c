use Rattle.row_pipe.proofs.LawLemmas.{narrow_within}
use Rattle.row_pipe.proofs.laws.narrow_rows_stay_within.Goals as goal

pub returns : goal.returns
returns c = narrow_within
